-- A table of clients, row by row.
use Rattle.std.proofs.Common.{◌≡◌, ◌<◌, ◌+◌, ◌-◌, ◌∙◌, ℕ, List, length, get_or, set, Some, ap, sym, inl, inr, arith}
use Rattle.std.specs.Prelude.{unwrap_or}
use Rattle.std.proofs.lemmas.Bool.Decides.{leb_tells}
use Rattle.std.specs.Ordering.{nat_cmp}
use Rattle.std.specs.FinMap as map
use Rattle.std.specs.FinMap.{FinMap, get}
use Rattle.std.proofs.lemmas.List.{get_or_default, get_or-set_same, get_or-set_other}
use Rattle.node_table.specs.Kept.{numbered_map}
use Rattle.node_table.proofs.Numbered.{get-numbered, get-below, get-above, numbered_insert}
use Rattle.cell_pools.specs.Cells.{Holding, no_cells, holding_of}

abbrev pub seen : List Holding → FinMap nat_cmp Holding
seen rows = numbered_map 128 64 (λ row. Some (get_or rows row no_cells))

module _ (rows : List Holding) (m : FinMap nat_cmp Holding) (client row : ℕ) (long : length rows ≡ 64) (view : seen rows ≡ m) (at : client ≡ 128 + row) (below : row < 64) where
  pub row_is : (d : Holding) → get_or rows row d ≡ holding_of m client
  row_is d =
      get_or_default rows row d no_cells (omega (arith, long))
      ∙ sym (ap (λ o. unwrap_or o no_cells) (ap (get m) at ∙ ap (λ n. get n (128 + row)) (sym view) ∙ get-numbered 128 64 row (λ r. Some (get_or rows r no_cells)) below))

  pub row_set : (h : Holding) → seen (set rows row h) ≡ map.insert m client h
  row_set h =
      numbered_insert 128 64 row (λ r. Some (get_or rows r no_cells)) (λ r. Some (get_or (set rows row h) r no_cells)) h below (ap Some (get_or-set_same rows row h no_cells (omega (arith, long))))
      (λ r l ne. ap Some (get_or-set_other rows row r h no_cells ne))
      ∙ ap (λ n. map.insert n (128 + row) h) view ∙ ap (λ k. map.insert m k h) (sym at)

  -- a row that becomes this
  pub row_changed : (was : Holding) (h : Holding) (f : Holding → Holding) → h ≡ f (get_or rows row was) → seen (set rows row h) ≡ map.insert m client (f (holding_of m client))
  row_changed was h f e = row_set h ∙ ap (map.insert m client) (e ∙ ap f (row_is was))

-- the rows of clients that have nothing
pub no_rows : (rows : List Holding) → ((i : ℕ) → get_or rows i no_cells ≡ no_cells) → (client : ℕ) → holding_of (seen rows) client ≡ no_cells
no_rows rows none client = elim (leb_tells 128 client) [
  | inr low ↦ ap (λ o. unwrap_or o no_cells) (get-below 128 64 client (λ r. Some (get_or rows r no_cells)) low.1)
  | inl from ↦ elim (leb_tells 192 client) [
    | inl high ↦ ap (λ o. unwrap_or o no_cells) (get-above 128 64 client (λ r. Some (get_or rows r no_cells)) (omega (arith, high.1)))
    | inr below ↦
        let at : client ≡ 128 + (client - 128) = omega (arith, from.1) in
        let small : client - 128 < 64 = omega (arith, from.1, below.1) in
        ap (λ o. unwrap_or o no_cells) (ap (get (seen rows)) at ∙ get-numbered 128 64 (client - 128) (λ r. Some (get_or rows r no_cells)) small) ∙ none (client - 128)
  ]
]
