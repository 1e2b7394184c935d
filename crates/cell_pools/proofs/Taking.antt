-- What a store shows, and that it keeps its cells, after one was taken.
use Rattle.std.proofs.Common.{◌≡◌, ◌≢◌, ◌<◌, ◌≤◌, ◌+◌, ◌-◌, ◌∙◌, ◌⊎◌, ℕ, List, length, take, get_or, set, Option, Some, None, refl, ap, sym, subst, inl, inr, arith}
use Rattle.std.specs.Prelude.{slice_get, IsSome}
use Rattle.std.specs.Option.{option_map}
use Rattle.std.specs.List.{swap_remove}
use Rattle.std.proofs.lemmas.Bool.{cases_eq, eq-eqb, false≢true}
use Rattle.std.proofs.lemmas.Bool.Decides.{leb_tells}
use Rattle.std.proofs.lemmas.List.{get_or-set_same, get_or-set_other}
use Rattle.std.proofs.lemmas.Option.{same_Some, none-some, slice_get_within, slice_get-get_or}
use Rattle.std.specs.FinMap as map
use Rattle.std.specs.FinMap.{get}
use Rattle.node_table.proofs.Numbered.{remove_absent}
use Rattle.cell_pools.specs.declared.store.Cell.{Cell}
use Rattle.cell_pools.specs.Cells.{Holding, Clients, holding_of, keys_in, with_its_keys, is_of, Store, IsTaken}
use Rattle.cell_pools.specs.Kept.{cell_content, cells_kept, AreCellsKept}
use Rattle.node_table.proofs.Places.{some_is}
use Rattle.cell_pools.proofs.Maps.{held-insert_same, held-insert_other, held-insert_part}
use Rattle.cell_pools.proofs.Swapped.{swapped-past, swapped-here, swapped-other, take-swapped}
use Rattle.cell_pools.proofs.Keeping.{get-kept, remove-kept, one_spot, within_slots}

-- The slots without a cell: the cell of the last key of its list, if this is another, has its place there.
pub record IsRemoved {T : Type 0} (slots slots' : List (Option (Cell T))) (keys : List ℕ) (key index : ℕ) : Type 0 where
  pub gone : get_or slots' key None ≡ None
  pub moved : (m : ℕ) (d : Cell T) → index + 1 < length keys → slice_get keys (length keys - 1) ≡ Some m → get_or slots m None ≡ Some d → get_or slots' m None ≡ Some (record d { index = index })
  pub others : (k : ℕ) → k ≢ key → (index + 1 < length keys → slice_get keys (length keys - 1) ≢ Some k) → get_or slots' k None ≡ get_or slots k None

module _ {T : Type 0} (clients : Clients) (slots : List (Option (Cell T))) (kept : AreCellsKept clients slots) (key : ℕ) (c : Cell T) (was : get_or slots key None ≡ Some c) where
  abbrev list : List ℕ
  list = keys_in clients c.client

  abbrev left : Holding
  left = record { size = (holding_of clients c.client).size; keys = swap_remove list c.index 0 }

  abbrev lists' : Clients
  lists' = map.insert clients c.client left

  place : slice_get list c.index ≡ Some key
  place = kept.placed key c was

  pub taken-inside : c.index < length list
  taken-inside = slice_get_within list c.index key place

  last_there : slice_get list (length list - 1) ≡ Some (get_or list (length list - 1) 0)
  last_there = let within : c.index < length list = taken-inside in slice_get-get_or list (length list - 1) 0 (omega arith)

  here : (q : ℕ) → q ≡ c.client → keys_in lists' q ≡ swap_remove list c.index 0
  here q same = ap (λ n. keys_in lists' n) same ∙ ap (λ (h : Holding). h.keys) (held-insert_same clients c.client left)

  there : (q : ℕ) → q ≢ c.client → keys_in lists' q ≡ keys_in clients q
  there q ne = ap (λ (h : Holding). h.keys) (held-insert_other clients c.client left q ne)

  -- what stands at the place of the key now
  pub stands-now : (clients' : Clients) (h : Holding) (o : Option ℕ) → clients' ≡ with_its_keys clients c.client (swap_remove (keys_in clients c.client) c.index 0) → h ≡ holding_of clients' c.client → o ≡ slice_get h.keys c.index → slice_get (swap_remove (keys_in clients c.client) c.index 0) c.index ≡ o
  stands-now clients' h o is at e = sym (e ∙ ap (λ (x : Holding). slice_get x.keys c.index) (at ∙ ap (λ m. holding_of m c.client) is ∙ held-insert_same clients c.client left))

  -- ---- the two ways of the code

  -- the key was the last of its list
  pub removed-last : (slots' : List (Option (Cell T))) → get_or slots' key None ≡ None → ((k : ℕ) → k ≢ key → get_or slots' k None ≡ get_or slots k None) → slice_get (swap_remove list c.index 0) c.index ≡ None → IsRemoved slots slots' list key c.index
  removed-last slots' gone others none =
      record {
        gone = gone;
        moved = λ m d l e f. absurd (none-some m (sym none ∙ swapped-here list c.index taken-inside l ∙ e));
        others = λ k ne not_last. others k ne;
      }

  module _ (slots₁ : List (Option (Cell T))) (gone : get_or slots₁ key None ≡ None) (others : (k : ℕ) → k ≢ key → get_or slots₁ k None ≡ get_or slots k None) (m at : ℕ) (is : at ≡ m) (stands : slice_get (swap_remove list c.index 0) c.index ≡ Some m) where
    not_past : c.index + 1 < length list
    not_past = elim (leb_tells (length list) (c.index + 1)) [
      | inl past ↦ absurd (none-some m (sym (swapped-past list c.index taken-inside c.index past.1) ∙ stands))
      | inr below ↦ below.1
    ]

    was_last : slice_get list (length list - 1) ≡ Some m
    was_last = sym (swapped-here list c.index taken-inside not_past) ∙ stands

    other_key : m ≢ key
    other_key same = let spot : c.index ≡ length list - 1 = (one_spot clients slots kept c.client c.index c.client (length list - 1) key place (was_last ∙ ap Some same)).1 in
        let l : c.index + 1 < length list = not_past in omega arith

    old : T
    old = (kept.listed c.client (length list - 1) m was_last).0

    at_moved : get_or slots₁ m None ≡ Some (record { client = c.client; index = length list - 1; value = (kept.listed c.client (length list - 1) m was_last).0 })
    at_moved = others m other_key ∙ (kept.listed c.client (length list - 1) m was_last).1

    pub moved-there : IsSome (get_or slots₁ at None)
    moved-there = some_is _ _ (ap (λ n. get_or slots₁ n None) is ∙ at_moved)

    -- the last key took its place
    pub removed-moved : (d : Cell T) → get_or slots₁ at None ≡ Some d → IsRemoved slots (set slots₁ at (Some (record d { index = c.index }))) list key c.index
    removed-moved d read =
        record {
          gone = get_or-set_other slots₁ at key (Some (record d { index = c.index })) None (λ e. other_key (sym (e ∙ is))) ∙ gone;
          moved = λ n f l e g.
              let one : n ≡ m = same_Some _ _ (sym e ∙ was_last) in
              let same : f ≡ d = same_Some _ _ (sym g ∙ sym (others n (λ h. other_key (sym one ∙ h))) ∙ ap (λ j. get_or slots₁ j None) (one ∙ sym is) ∙ read) in
              ap (λ j. get_or (set slots₁ at (Some (record d { index = c.index }))) j None) (one ∙ sym is) ∙ get_or-set_same slots₁ at (Some (record d { index = c.index })) None (within_slots slots₁ at d read)
              ∙ ap (λ (x : Cell T). Some (record x { index = c.index })) (sym same);
          others = λ k ne not_last. get_or-set_other slots₁ at k (Some (record d { index = c.index })) None (λ e. not_last not_past (was_last ∙ ap Some (sym (e ∙ is)))) ∙ others k ne;
        }

  -- ---- what is left

  module _ (slots' : List (Option (Cell T))) (removed : IsRemoved slots slots' list key c.index) where
    -- the key is the last that moves, or it is none that changes
    is_last : (k : ℕ) → ((c.index + 1 < length list) × (slice_get list (length list - 1) ≡ Some k)) ⊎ (c.index + 1 < length list → slice_get list (length list - 1) ≢ Some k)
    is_last k = elim (leb_tells (length list) (c.index + 1)) [
      | inl past ↦ inr (λ l e. omega (arith, past.1))
      | inr below ↦ elim (cases_eq (get_or list (length list - 1) 0) k) [
        | inl same ↦ inl (below.1, last_there ∙ ap Some same)
        | inr ne ↦ inr (λ l e. ne (same_Some _ _ (sym last_there ∙ e)))
      ]
    ]

    shows_same : (k : ℕ) → k ≢ key → option_map cell_content (get_or slots' k None) ≡ option_map cell_content (get_or slots k None)
    shows_same k ne = elim (is_last k) [
      | inl last ↦ let cell = kept.listed c.client (length list - 1) k last.1 in
          ap (option_map cell_content) (removed.moved k _ last.0 last.1 cell.1) ∙ sym (ap (option_map cell_content) cell.1)
      | inr other ↦ ap (option_map cell_content) (removed.others k ne other)
    ]

    take_listed : (q j k : ℕ) → slice_get (keys_in lists' q) j ≡ Some k → (x : T) × (get_or slots' k None ≡ Some (record { client = q; index = j; value = x }))
    take_listed q j k e = elim (cases_eq q c.client) [
      | inl same ↦
          let now : slice_get (swap_remove list c.index 0) j ≡ Some k = ap (λ ks. slice_get ks j) (sym (here q same)) ∙ e in
          elim (leb_tells (length list) (j + 1)) [
            | inl past ↦ absurd (none-some k (sym (swapped-past list c.index taken-inside j past.1) ∙ now))
            | inr below ↦ elim (cases_eq j c.index) [
              | inl at ↦
                  let l : c.index + 1 < length list = omega (arith, below.1) in
                  let last : slice_get list (length list - 1) ≡ Some k = sym (swapped-here list c.index taken-inside l) ∙ ap (slice_get (swap_remove list c.index 0)) (sym at) ∙ now in
                  let cell = kept.listed c.client (length list - 1) k last in
                  (cell.0, removed.moved k _ l last cell.1 ∙ ap (λ n. Some (record { client = n; index = c.index; value = cell.0 })) (sym same) ∙ ap (λ n. Some (record { client = q; index = n; value = cell.0 })) (sym at))
              | inr apart ↦
                  let old : slice_get list j ≡ Some k = sym (swapped-other list c.index taken-inside j below.1 apart) ∙ now in
                  let cell = kept.listed c.client j k old in (
                    cell.0,
                    removed.others k (λ s. apart (one_spot clients slots kept c.client j c.client c.index key (old ∙ ap Some s) place).1)
                        (λ l f. let spot : j ≡ length list - 1 = (one_spot clients slots kept c.client j c.client (length list - 1) k old f).1 in omega (arith, below.1))
                        ∙ cell.1 ∙ ap (λ n. Some (record { client = n; index = j; value = cell.0 })) (sym same),
                  )
            ]
          ]
      | inr ne ↦
          let old : slice_get (keys_in clients q) j ≡ Some k = ap (λ ks. slice_get ks j) (sym (there q ne)) ∙ e in
          let cell = kept.listed q j k old in (
            cell.0,
            removed.others k (λ s. ne (one_spot clients slots kept q j c.client c.index key (old ∙ ap Some s) place).0)
                (λ l f. ne (one_spot clients slots kept q j c.client (length list - 1) k old f).0)
                ∙ cell.1,
          )
    ]

    some_key : (k : ℕ) (d : Cell T) → get_or slots' k None ≡ Some d → k ≢ key
    some_key k d e same = none-some d (sym removed.gone ∙ ap (λ n. get_or slots' n None) (sym same) ∙ e)

    take_placed : (k : ℕ) (d : Cell T) → get_or slots' k None ≡ Some d → slice_get (keys_in lists' d.client) d.index ≡ Some k
    take_placed k d e = elim (is_last k) [
      | inl last ↦
          let cell = kept.listed c.client (length list - 1) k last.1 in
          let is = same_Some _ _ (sym (removed.moved k _ last.0 last.1 cell.1) ∙ e) in
          subst (λ (f : Cell T). slice_get (keys_in lists' f.client) f.index ≡ Some k) is (ap (λ ks. slice_get ks c.index) (here c.client refl) ∙ swapped-here list c.index taken-inside last.0 ∙ last.1)
      | inr other ↦
          let before : get_or slots k None ≡ Some d = sym (removed.others k (some_key k d e) other) ∙ e in
          let old = kept.placed k d before in
          elim (cases_eq d.client c.client) [
            | inl same ↦
                let at : slice_get list d.index ≡ Some k = ap (λ n. slice_get (keys_in clients n) d.index) (sym same) ∙ old in
                let within : d.index < length list = slice_get_within list d.index k at in
                let apart : d.index ≢ c.index = λ s. some_key k d e (same_Some _ _ (sym at ∙ ap (slice_get list) s ∙ place)) in
                let bound : c.index < length list = taken-inside in
                let below : d.index + 1 < length list = elim (leb_tells (length list) (d.index + 1)) [
                  | inl past ↦ elim (leb_tells (length list) (c.index + 1)) [
                    | inl both ↦ absurd (apart (omega (arith, past.1, both.1)))
                    | inr less ↦ absurd (other less.1 (let is : length list - 1 ≡ d.index = omega (arith, past.1) in ap (slice_get list) is ∙ at))
                  ]
                  | inr less ↦ less.1
                ] in
                ap (λ ks. slice_get ks d.index) (here d.client same) ∙ swapped-other list c.index taken-inside d.index below apart ∙ at
            | inr ne ↦ ap (λ ks. slice_get ks d.index) (there d.client ne) ∙ old
          ]
    ]

    take_known : (k : ℕ) (d : Cell T) → get_or slots' k None ≡ Some d → (128 ≤ d.client) × (d.client < 192)
    take_known k d e = elim (is_last k) [
      | inl last ↦
          let cell = kept.listed c.client (length list - 1) k last.1 in
          let is = same_Some _ _ (sym (removed.moved k _ last.0 last.1 cell.1) ∙ e) in
          subst (λ (f : Cell T). (128 ≤ f.client) × (f.client < 192)) is (kept.known key c was)
      | inr other ↦ kept.known k d (sym (removed.others k (some_key k d e) other) ∙ e)
    ]

    pub take-kept : (clients' : Clients) → clients' ≡ with_its_keys clients c.client (swap_remove (keys_in clients c.client) c.index 0) → AreCellsKept clients' slots'
    take-kept clients' is = subst (λ m. AreCellsKept m slots') (sym is) (record { listed = take_listed; placed = take_placed; known = take_known })

    -- what is seen then
    pub take-seen : (clients' : Clients) → clients' ≡ with_its_keys clients c.client (swap_remove (keys_in clients c.client) c.index 0) →
        IsTaken (record { cells = cells_kept slots; clients = clients }) (record { cells = cells_kept slots'; clients = clients' }) key
    take-seen clients' is = subst (λ m. IsTaken (record { cells = cells_kept slots; clients = clients }) (record { cells = cells_kept slots'; clients = m }) key) (sym is) (record {
      cells = remove-kept slots slots' key removed.gone shows_same;
      sizes = λ q. held-insert_part (λ h. h.size) clients c.client left refl q;
      before = λ q i e. elim (cases_eq q c.client) [
        | inl same ↦
            let spot : i ≡ c.index = (one_spot clients slots kept q i c.client c.index key e place).1 in
            ap (take i) (here q same) ∙ ap (λ n. take n (swap_remove list c.index 0)) spot ∙ take-swapped list c.index taken-inside ∙ ap (λ n. take n list) (sym spot) ∙ ap (λ n. take i (keys_in clients n)) (sym same)
        | inr ne ↦ ap (take i) (there q ne)
      ];
      others = λ q no. there q (λ same. false≢true (sym no ∙ ap (is_of q) (get-kept slots key ∙ ap (option_map cell_content) was) ∙ eq-eqb c.client q (sym same)));
    })

    -- the same of stores that show this
    pub take-shown : (clients' : Clients) (s s' : Store T) (at : ℕ) → clients' ≡ with_its_keys clients c.client (swap_remove (keys_in clients c.client) c.index 0) → key ≡ at →
        ◌≡◌ {A = Store T} (record { cells = cells_kept slots; clients = clients }) s → s' ≡ record { cells = cells_kept slots'; clients = clients' } → IsTaken s s' at
    take-shown clients' s s' at is same view view' =
        subst (λ (n : Store T). IsTaken n s' at) view
        (subst (λ (n : Store T). IsTaken (record { cells = cells_kept slots; clients = clients }) n at) (sym view')
        (subst (λ k. IsTaken (record { cells = cells_kept slots; clients = clients }) (record { cells = cells_kept slots'; clients = clients' }) k) same (take-seen clients' is)))

module _ {T : Type 0} (s : Store T) (key : ℕ) where
  -- nothing was there to be taken
  pub none-taken : get s.cells key ≡ None → IsTaken s s key
  none-taken none =
      record {
        cells = sym (remove_absent s.cells key none);
        sizes = λ client. refl;
        before = λ client i e. refl;
        others = λ client no. refl;
      }
