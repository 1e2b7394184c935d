-- What a client holds after a change, and how many entries a map has.
use Rattle.std.proofs.Common.{◌≡◌, ◌≢◌, ◌+◌, ◌-◌, ◌∙◌, ℕ, zero, suc, cond, List, [], ◌∷◌, length, Option, Some, None, refl, ap, sym, subst, inl, inr, arith}
use Rattle.std.specs.Prelude.{unwrap_or, slice_get, IsSome}
use Rattle.std.proofs.lemmas.Bool.{cases_eq}
use Rattle.std.specs.Ordering.{nat_cmp}
use Rattle.std.specs.Cmp.{nat_cmp_total}
use Rattle.std.specs.FinMap as map
use Rattle.std.specs.FinMap.{FinMap, get, same_map, nat_cmp-IsAntisymmetric, get-empty, empty_of_len, len-empty, len-remove, get-retain_keys}
use Rattle.node_table.proofs.Places.{not_both}
use Rattle.node_table.proofs.Numbered.{get-insert_same, get-insert_other, get-remove_same, get-remove_other}
use Rattle.cell_pools.specs.Cells.{Holding, Clients, Cells, no_cells, holding_of, AreKeys, is_of, cells_of}

pub held-insert_same : (m : Clients) (client : ℕ) (h : Holding) → holding_of (map.insert m client h) client ≡ h
held-insert_same m client h = ap (λ o. unwrap_or o no_cells) (get-insert_same m client h)

pub held-insert_other : (m : Clients) (client : ℕ) (h : Holding) (q : ℕ) → q ≢ client → holding_of (map.insert m client h) q ≡ holding_of m q
held-insert_other m client h q ne = ap (λ o. unwrap_or o no_cells) (get-insert_other m client h q ne)

-- a change of a client that leaves this part of it leaves it for all
pub held-insert_part : {A : Type 0} (part : Holding → A) (m : Clients) (client : ℕ) (h : Holding) → part h ≡ part (holding_of m client) → (q : ℕ) → part (holding_of (map.insert m client h) q) ≡ part (holding_of m q)
held-insert_part part m client h e q = elim (cases_eq q client) [
  | inl same ↦ ap (λ k. part (holding_of (map.insert m client h) k)) same ∙ ap part (held-insert_same m client h) ∙ e ∙ ap (λ k. part (holding_of m k)) (sym same)
  | inr ne ↦ ap part (held-insert_other m client h q ne)
]

module _ {X : Type 0} where
  pub some_or_none : (o : Option X) → (IsSome o → ⊥) → o ≡ None
  some_or_none None h = refl
  some_or_none (Some x) h = absurd (h refl)

  pub no_entries : (m : FinMap nat_cmp X) → ((q : ℕ) → get m q ≡ None) → m ≡ map.empty
  no_entries m none = same_map nat_cmp_total nat_cmp-IsAntisymmetric _ _ (λ q. none q ∙ sym (get-empty nat_cmp q))

  -- a map with an entry has one more than without it
  len-without : (m : FinMap nat_cmp X) (k : ℕ) → IsSome (get m k) → map.len m ≡ map.len (map.remove m k) + 1
  len-without m k there =
      let less : map.len (map.remove m k) ≡ map.len m - 1 = len-remove nat_cmp_total m k ∙ ap (λ b. cond b (map.len m - 1) (map.len m)) there in
      let some : map.len m ≢ 0 = λ e. not_both (get m k) there (ap (λ n. get n k) (empty_of_len m e) ∙ get-empty nat_cmp k) in
      omega arith

  -- a map has as many entries as a list of its keys
  pub len-keys : (keys : List ℕ) (m : FinMap nat_cmp X) → AreKeys m keys → map.len m ≡ length keys
  len-keys [] m h =
      let none : (q : ℕ) → get m q ≡ None = λ q. some_or_none (get m q) (λ s. nowhere ((h.all q s).0) q ((h.all q s).1)) in
      ap map.len (no_entries m none) ∙ len-empty nat_cmp X
    where
      nowhere : (i q : ℕ) → ◌≡◌ {A = Option ℕ} None (Some q) → ⊥
      nowhere i q e = cc
  len-keys (k ∷ ks) m h =
      len-without m k (h.there 0 k refl)
      ∙ ap (λ n. n + 1) (len-keys ks (map.remove m k) (record {
        there = λ i key e. subst IsSome (sym (get-remove_other m k key (apart i key e))) (h.there (suc i) key e);
        all = λ key s. later key (other key s) (h.all key (subst IsSome (get-remove_other m k key (other key s)) s));
        once = λ i j key a b. let e : suc i ≡ suc j = h.once (suc i) (suc j) key a b in omega arith;
      }))
      ∙ omega arith
    where
      apart : (i key : ℕ) → slice_get ks i ≡ Some key → key ≢ k
      apart i key e same = let no : 0 ≡ suc i = h.once 0 (suc i) key (ap Some (sym same)) e in omega arith

      other : (key : ℕ) → IsSome (get (map.remove m k) key) → key ≢ k
      other key s same = not_both (get (map.remove m k) key) s (ap (get (map.remove m k)) same ∙ get-remove_same m k)

      later : (key : ℕ) → key ≢ k → (i : ℕ) × (slice_get (k ∷ ks) i ≡ Some key) → (i : ℕ) × (slice_get ks i ≡ Some key)
      later key ne p = by p.0 p.1
        where
          by : (i : ℕ) → slice_get (k ∷ ks) i ≡ Some key → (i : ℕ) × (slice_get ks i ≡ Some key)
          by zero e = let same : k ≡ key = cc in absurd (ne (sym same))
          by (suc i) e = (i, e)

module _ {T : Type 0} where
  -- what stands under a key among a client's cells
  pub get-cells_of : (cells : Cells T) (client q : ℕ) → get (cells_of cells client) q ≡ cond (is_of client (get cells q)) (get cells q) None
  get-cells_of cells client q = get-retain_keys cells (λ key. is_of client (get cells key)) q (λ x e. ap (λ k. is_of client (get cells k)) (sym (nat_cmp-IsAntisymmetric q x e)))
