-- What a store shows, and that it keeps its cells, after a change.
use Rattle.std.proofs.Common.{◌≡◌, ◌≢◌, ◌<◌, ◌≤◌, ◌∙◌, ◌⊎◌, ℕ, zero, suc, cond, List, [], ◌∷◌, ◌++◌, length, get_or, set, Option, Some, None, refl, ap, sym, subst, inl, inr, arith}
use Rattle.std.specs.Prelude.{slice_get, IsSome}
use Rattle.std.specs.Option.{option_map}
use Rattle.std.proofs.lemmas.Bool.{cases_eq, eq-eqb}
use Rattle.std.proofs.lemmas.Bool.Decides.{leb_tells, eqb_tells}
use Rattle.std.proofs.lemmas.List.{get_or_past, get_or-set_same, get_or-set_other}
use Rattle.std.proofs.lemmas.Option.{same_Some, none-some}
use Rattle.std.specs.Cmp.{nat_cmp_total}
use Rattle.std.specs.FinMap as map
use Rattle.std.specs.FinMap.{get, same_map, nat_cmp-IsAntisymmetric}
use Rattle.node_table.proofs.Numbered.{get-from_zero, get-above, get-insert_same, get-insert_other, get-remove_same, get-remove_other}
use Rattle.cell_pools.specs.declared.store.Cell.{Cell}
use Rattle.cell_pools.specs.Cells.{Holding, Clients, Cells, holding_of, keys_in, with_its_keys, AreKeys, is_of, cells_of, Store, with_cell, with_value, put_value, keys_of, used_by}
use Rattle.cell_pools.specs.Kept.{cell_content, cells_kept, AreCellsKept}
use Rattle.node_table.proofs.Places.{not_both, some_is}
use Rattle.cell_pools.proofs.Maps.{held-insert_same, held-insert_other, no_entries, len-keys, get-cells_of}

-- ---- a list with a key more

push_cases : (keys : List ℕ) (key i k : ℕ) → slice_get (keys ++ key ∷ []) i ≡ Some k → (slice_get keys i ≡ Some k) ⊎ ((i ≡ length keys) × (k ≡ key))
push_cases [] key zero k e = inr (refl, sym (same_Some _ _ e))
push_cases [] key (suc i) k e = absurd (none-some k e)
push_cases (x ∷ xs) key zero k e = inl e
push_cases (x ∷ xs) key (suc i) k e = elim (push_cases xs key i k e) [ inl old ↦ inl old | inr new ↦ inr (ap suc new.0, new.1) ]

push_left : (keys : List ℕ) (key i k : ℕ) → slice_get keys i ≡ Some k → slice_get (keys ++ key ∷ []) i ≡ Some k
push_left [] key i k e = absurd (none-some k e)
push_left (x ∷ xs) key zero k e = e
push_left (x ∷ xs) key (suc i) k e = push_left xs key i k e

pushed : (keys : List ℕ) (key : ℕ) → slice_get (keys ++ key ∷ []) (length keys) ≡ Some key
pushed [] key = refl
pushed (x ∷ xs) key = pushed xs key

module _ {T : Type 0} where
  -- ---- what stands under a key

  pub get-kept : (slots : List (Option (Cell T))) (key : ℕ) → get (cells_kept slots) key ≡ option_map cell_content (get_or slots key None)
  get-kept slots key = elim (leb_tells (length slots) key) [
    | inl past ↦ get-above 0 (length slots) key (λ k. option_map cell_content (get_or slots k None)) (omega (arith, past.1)) ∙ sym (ap (option_map cell_content) (get_or_past slots key None past.1))
    | inr within ↦ get-from_zero (length slots) key (λ k. option_map cell_content (get_or slots k None)) within.1
  ]

  pub empty-kept : (slots : List (Option (Cell T))) → slots ≡ [] → cells_kept slots ≡ map.empty
  empty-kept slots e = no_entries (cells_kept slots) (λ q. get-kept slots q ∙ ap (λ s. option_map cell_content (get_or s q None)) e)

  same_cells : (m n : Cells T) → ((q : ℕ) → get m q ≡ get n q) → m ≡ n
  same_cells m n h = same_map nat_cmp_total nat_cmp-IsAntisymmetric m n h

  -- another cell stands under a key
  pub insert-kept : (slots slots' : List (Option (Cell T))) (key : ℕ) (c : Cell T) → get_or slots' key None ≡ Some c → ((k : ℕ) → k ≢ key → get_or slots' k None ≡ get_or slots k None) → cells_kept slots' ≡ map.insert (cells_kept slots) key (cell_content c)
  insert-kept slots slots' key c changed others = same_cells _ _ (λ q. elim (cases_eq q key) [
    | inl same ↦ ap (get (cells_kept slots')) same ∙ get-kept slots' key ∙ ap (option_map cell_content) changed ∙ sym (get-insert_same (cells_kept slots) key (cell_content c)) ∙ ap (get (map.insert (cells_kept slots) key (cell_content c))) (sym same)
    | inr ne ↦ get-kept slots' q ∙ ap (option_map cell_content) (others q ne) ∙ sym (get-kept slots q) ∙ sym (get-insert_other (cells_kept slots) key (cell_content c) q ne)
  ])

  -- a cell is gone, and the others show what they showed
  pub remove-kept : (slots slots' : List (Option (Cell T))) (key : ℕ) → get_or slots' key None ≡ None → ((k : ℕ) → k ≢ key → option_map cell_content (get_or slots' k None) ≡ option_map cell_content (get_or slots k None)) → cells_kept slots' ≡ map.remove (cells_kept slots) key
  remove-kept slots slots' key gone others = same_cells _ _ (λ q. elim (cases_eq q key) [
    | inl same ↦ ap (get (cells_kept slots')) same ∙ get-kept slots' key ∙ ap (option_map cell_content) gone ∙ sym (get-remove_same (cells_kept slots) key) ∙ ap (get (map.remove (cells_kept slots) key)) (sym same)
    | inr ne ↦ get-kept slots' q ∙ others q ne ∙ sym (get-kept slots q) ∙ sym (get-remove_other (cells_kept slots) key q ne)
  ])

  -- ---- the keys of a client

  module _ (clients : Clients) (slots : List (Option (Cell T))) (kept : AreCellsKept clients slots) where
    -- a key stands once in one list
    pub one_spot : (q i p j key : ℕ) → slice_get (keys_in clients q) i ≡ Some key → slice_get (keys_in clients p) j ≡ Some key → (q ≡ p) × (i ≡ j)
    one_spot q i p j key a b =
        let one = kept.listed q i key a in
        let other = kept.listed p j key b in
        let same = same_Some _ _ (sym one.1 ∙ other.1) in
        (ap (λ c. c.client) same, ap (λ c. c.index) same)

    shows : (client i key : ℕ) → slice_get (keys_in clients client) i ≡ Some key → IsSome (get (cells_of (cells_kept slots) client) key)
    shows client i key e =
        let cell = kept.listed client i key e in
        some_is _ (client, cell.0)
        (get-cells_of (cells_kept slots) client key ∙ ap (λ o. cond (is_of client o) o None) (get-kept slots key ∙ ap (option_map cell_content) cell.1) ∙ ap (λ b. cond b (Some (client, cell.0)) None) (eq-eqb client client refl))

    stands : (client key : ℕ) → IsSome (get (cells_of (cells_kept slots) client) key) → (i : ℕ) × (slice_get (keys_in clients client) i ≡ Some key)
    stands client key some = by (get_or slots key None) refl
      where
        is : (o : Option (Cell T)) → get_or slots key None ≡ o → get (cells_of (cells_kept slots) client) key ≡ cond (is_of client (option_map cell_content o)) (option_map cell_content o) None
        is o e = get-cells_of (cells_kept slots) client key ∙ ap (λ o. cond (is_of client o) o None) (get-kept slots key ∙ ap (option_map cell_content) e)

        by : (o : Option (Cell T)) → get_or slots key None ≡ o → (i : ℕ) × (slice_get (keys_in clients client) i ≡ Some key)
        by None e = absurd (not_both _ some (is None e))
        by (Some c) e = elim (eqb_tells c.client client) [
          | inl here ↦ (c.index, subst (λ n. slice_get (keys_in clients n) c.index ≡ Some key) here.1 (kept.placed key c e))
          | inr apart ↦ absurd (not_both _ some (is (Some c) e ∙ ap (λ b. cond b (Some (cell_content c)) None) apart.0))
        ]

    client_keys : (client : ℕ) → AreKeys (cells_of (cells_kept slots) client) (keys_in clients client)
    client_keys client = record { there = shows client; all = stands client; once = λ i j key a b. (one_spot client i client j key a b).1 }

    -- ---- what is seen

    module _ (s : Store T) (view : ◌≡◌ {A = Store T} (record { cells = cells_kept slots; clients = clients }) s) where
      pub found : (at key : ℕ) (o : Option (Cell T)) → at ≡ key → get_or slots at None ≡ o → get s.cells key ≡ option_map cell_content o
      found at key o same e = ap (get s.cells) (sym same) ∙ ap (λ (n : Store T). get n.cells at) (sym view) ∙ get-kept slots at ∙ ap (option_map cell_content) e

      -- each cell is that of a client
      pub known_seen : (key : ℕ) (v : ℕ × T) → get s.cells key ≡ Some v → (128 ≤ v.0) × (v.0 < 192)
      known_seen key v e = by (get_or slots key None) refl
        where
          by : (o : Option (Cell T)) → get_or slots key None ≡ o → (128 ≤ v.0) × (v.0 < 192)
          by None f = absurd (none-some v (sym (found key key None refl f) ∙ e))
          by (Some c) f = subst (λ (x : ℕ × T). (128 ≤ x.0) × (x.0 < 192)) (same_Some _ _ (sym (found key key (Some c) refl f) ∙ e)) (kept.known key c f)

      pub keys_listed : (client : ℕ) → AreKeys (cells_of s.cells client) (keys_of s client)
      keys_listed client = subst (λ (n : Store T). AreKeys (cells_of n.cells client) (keys_of n client)) view (client_keys client)

      pub used_is : (client : ℕ) → length (keys_of s client) ≡ used_by s.cells client
      used_is client = sym (len-keys (keys_of s client) (cells_of s.cells client) (keys_listed client))

    -- the same lists keep the same cells
    pub lists-kept : (clients' : Clients) → ((q : ℕ) → (holding_of clients' q).keys ≡ keys_in clients q) → AreCellsKept clients' slots
    lists-kept clients' same =
        record {
          listed = λ client i key e. kept.listed client i key (ap (λ ks. slice_get ks i) (sym (same client)) ∙ e);
          placed = λ key c e. ap (λ ks. slice_get ks c.index) (same c.client) ∙ kept.placed key c e;
          known = kept.known;
        }

    -- ---- another value

    module _ (slots' : List (Option (Cell T))) (key : ℕ) (c : Cell T) (w : T) (was : get_or slots key None ≡ Some c) (changed : get_or slots' key None ≡ Some (record c { value = w })) (others : (k : ℕ) → k ≢ key → get_or slots' k None ≡ get_or slots k None) where
      pub written-kept : AreCellsKept clients slots'
      written-kept =
          record {
            listed = λ client i k e. let cell = kept.listed client i k e in elim (cases_eq k key) [
              | inl same ↦ let is = same_Some _ _ (sym was ∙ ap (λ n. get_or slots n None) (sym same) ∙ cell.1) in
                  (w, ap (λ n. get_or slots' n None) same ∙ changed ∙ ap (λ (d : Cell T). Some (record d { value = w })) is)
              | inr ne ↦ (cell.0, others k ne ∙ cell.1)
            ];
            placed = λ k d e. elim (cases_eq k key) [
              | inl same ↦ let is = same_Some _ _ (sym changed ∙ ap (λ n. get_or slots' n None) (sym same) ∙ e) in
                  subst (λ (d : Cell T). slice_get (keys_in clients d.client) d.index ≡ Some k) is (kept.placed key c was ∙ ap Some (sym same))
              | inr ne ↦ kept.placed k d (sym (others k ne) ∙ e)
            ];
            known = λ k d e. elim (cases_eq k key) [
              | inl same ↦ let is = same_Some _ _ (sym changed ∙ ap (λ n. get_or slots' n None) (sym same) ∙ e) in
                  subst (λ (d : Cell T). (128 ≤ d.client) × (d.client < 192)) is (kept.known key c was)
              | inr ne ↦ kept.known k d (sym (others k ne) ∙ e)
            ];
          }

      pub written-seen : (s : Store T) → ◌≡◌ {A = Store T} (record { cells = cells_kept slots; clients = clients }) s → ◌≡◌ {A = Store T} (record { cells = cells_kept slots'; clients = clients }) (with_value s key w)
      written-seen s view =
          ap (λ cells. record { cells = cells; clients = clients }) (insert-kept slots slots' key (record c { value = w }) changed others)
          ∙ ap (λ o. record { cells = put_value (cells_kept slots) key w o; clients = clients }) (sym (get-kept slots key ∙ ap (option_map cell_content) was))
          ∙ ap (λ (n : Store T). with_value n key w) view

    -- ---- a cell more

    module _ (slots' : List (Option (Cell T))) (client key : ℕ) (x : T) (vacant : get_or slots key None ≡ None) (changed : get_or slots' key None ≡ Some (record { client = client; index = length (keys_in clients client); value = x })) (others : (k : ℕ) → k ≢ key → get_or slots' k None ≡ get_or slots k None) (low : 128 ≤ client) (high : client < 192) where
      abbrev more : Holding
      more = record { size = (holding_of clients client).size; keys = keys_in clients client ++ key ∷ [] }

      abbrev lists' : Clients
      lists' = with_its_keys clients client (keys_in clients client ++ key ∷ [])

      new_key : (k : ℕ) (c : Cell T) → get_or slots k None ≡ Some c → k ≢ key
      new_key k c e same = none-some c (sym vacant ∙ ap (λ n. get_or slots n None) (sym same) ∙ e)

      here : (q : ℕ) → q ≡ client → keys_in lists' q ≡ keys_in clients client ++ key ∷ []
      here q same = ap (λ n. keys_in lists' n) same ∙ ap (λ (h : Holding). h.keys) (held-insert_same clients client more)

      there : (q : ℕ) → q ≢ client → keys_in lists' q ≡ keys_in clients q
      there q ne = ap (λ (h : Holding). h.keys) (held-insert_other clients client more q ne)

      put_listed : (q i k : ℕ) → slice_get (keys_in lists' q) i ≡ Some k → (y : T) × (get_or slots' k None ≡ Some (record { client = q; index = i; value = y }))
      put_listed q i k e = elim (cases_eq q client) [
        | inl same ↦ elim (push_cases (keys_in clients client) key i k (ap (λ ks. slice_get ks i) (sym (here q same)) ∙ e)) [
          | inl old ↦ let cell = kept.listed client i k old in
              (cell.0, others k (new_key k _ cell.1) ∙ cell.1 ∙ ap (λ n. Some (record { client = n; index = i; value = cell.0 })) (sym same))
          | inr new ↦ (x, ap (λ n. get_or slots' n None) new.1 ∙ changed ∙ ap (λ n. Some (record { client = n; index = length (keys_in clients client); value = x })) (sym same) ∙ ap (λ n. Some (record { client = q; index = n; value = x })) (sym new.0))
        ]
        | inr ne ↦ let cell = kept.listed q i k (ap (λ ks. slice_get ks i) (sym (there q ne)) ∙ e) in
            (cell.0, others k (new_key k _ cell.1) ∙ cell.1)
      ]

      put_placed : (k : ℕ) (c : Cell T) → get_or slots' k None ≡ Some c → slice_get (keys_in lists' c.client) c.index ≡ Some k
      put_placed k c e = elim (cases_eq k key) [
        | inl same ↦ let is = same_Some _ _ (sym changed ∙ ap (λ n. get_or slots' n None) (sym same) ∙ e) in
            subst (λ (d : Cell T). slice_get (keys_in lists' d.client) d.index ≡ Some k) is
            (ap (λ ks. slice_get ks (length (keys_in clients client))) (here client refl) ∙ pushed (keys_in clients client) key ∙ ap Some (sym same))
        | inr ne ↦ let old = kept.placed k c (sym (others k ne) ∙ e) in elim (cases_eq c.client client) [
          | inl same ↦ ap (λ ks. slice_get ks c.index) (here c.client same) ∙ push_left (keys_in clients client) key c.index k (ap (λ n. slice_get (keys_in clients n) c.index) (sym same) ∙ old)
          | inr apart ↦ ap (λ ks. slice_get ks c.index) (there c.client apart) ∙ old
        ]
      ]

      put_known : (k : ℕ) (c : Cell T) → get_or slots' k None ≡ Some c → (128 ≤ c.client) × (c.client < 192)
      put_known k c e = elim (cases_eq k key) [
        | inl same ↦ let is = same_Some _ _ (sym changed ∙ ap (λ n. get_or slots' n None) (sym same) ∙ e) in
            subst (λ (d : Cell T). (128 ≤ d.client) × (d.client < 192)) is (low, high)
        | inr ne ↦ kept.known k c (sym (others k ne) ∙ e)
      ]

      pub put-kept : AreCellsKept (with_its_keys clients client (keys_in clients client ++ key ∷ [])) slots'
      put-kept = record { listed = put_listed; placed = put_placed; known = put_known }

      pub put-seen : (s : Store T) → ◌≡◌ {A = Store T} (record { cells = cells_kept slots; clients = clients }) s →
          ◌≡◌ {A = Store T} (record { cells = cells_kept slots'; clients = with_its_keys clients client (keys_in clients client ++ key ∷ []) }) (with_cell s client key x)
      put-seen s view =
          let cells : ◌≡◌ {A = Cells T} (cells_kept slots') (map.insert (cells_kept slots) key (client, x)) = insert-kept slots slots' key (record { client = client; index = length (keys_in clients client); value = x }) changed others in
          let first : ◌≡◌ {A = Store T} (record { cells = cells_kept slots'; clients = with_its_keys clients client (keys_in clients client ++ key ∷ []) }) (with_cell (record { cells = cells_kept slots; clients = clients }) client key x) = λ i. record { cells = cells i; clients = with_its_keys clients client (keys_in clients client ++ key ∷ []) } in
          first ∙ ap (λ (n : Store T). with_cell n client key x) view

  -- ---- as the code does it

  pub within_slots : (slots : List (Option (Cell T))) (key : ℕ) (c : Cell T) → get_or slots key None ≡ Some c → key < length slots
  within_slots slots key c e = elim (leb_tells (length slots) key) [
    | inl past ↦ absurd (none-some c (sym (get_or_past slots key None past.1) ∙ e))
    | inr within ↦ within.1
  ]

  module _ (clients : Clients) (slots : List (Option (Cell T))) (kept : AreCellsKept clients slots) (s : Store T) (view : ◌≡◌ {A = Store T} (record { cells = cells_kept slots; clients = clients }) s) where
    -- a write of one value
    module _ (at key : ℕ) (c : Cell T) (same : at ≡ key) (was : get_or slots at None ≡ Some c) (w : T) where
      inside : at < length slots
      inside = within_slots slots at c was

      pub set-kept : AreCellsKept clients (set slots at (Some (record c { value = w })))
      set-kept =
          written-kept clients slots kept (set slots at (Some (record c { value = w }))) at c w was (get_or-set_same slots at (Some (record c { value = w })) None inside)
          (λ k ne. get_or-set_other slots at k (Some (record c { value = w })) None ne)

      pub set-seen : ◌≡◌ {A = Store T} (record { cells = cells_kept (set slots at (Some (record c { value = w }))); clients = clients }) (with_value s key w)
      set-seen =
          written-seen clients slots kept (set slots at (Some (record c { value = w }))) at c w was (get_or-set_same slots at (Some (record c { value = w })) None inside)
          (λ k ne. get_or-set_other slots at k (Some (record c { value = w })) None ne) s view
          ∙ ap (λ n. with_value s n w) same

    -- a put, after room was made for it
    module _ (roomy slots' : List (Option (Cell T))) (clients' : Clients) (client at key index : ℕ) (x : T) (same : roomy ≡ slots) (is : at ≡ key) (place : index ≡ length (keys_in clients client)) (vacant : get_or roomy at None ≡ None) (changed : get_or slots' at None ≡ Some (record { client = client; index = index; value = x })) (others : (k : ℕ) → k ≢ at → get_or slots' k None ≡ get_or roomy k None) (listed : clients' ≡ with_its_keys clients client (keys_in clients client ++ key ∷ [])) (low : 128 ≤ client) (high : client < 192) where
      was_vacant : get_or slots key None ≡ None
      was_vacant = ap (λ n. get_or slots n None) (sym is) ∙ ap (λ ss. get_or ss at None) (sym same) ∙ vacant

      now_there : get_or slots' key None ≡ Some (record { client = client; index = length (keys_in clients client); value = x })
      now_there = ap (λ n. get_or slots' n None) (sym is) ∙ changed ∙ ap (λ n. Some (record { client = client; index = n; value = x })) place

      now_others : (k : ℕ) → k ≢ key → get_or slots' k None ≡ get_or slots k None
      now_others k ne = others k (λ e. ne (e ∙ is)) ∙ ap (λ ss. get_or ss k None) same

      pub stored-vacant : get s.cells key ≡ None
      stored-vacant = found clients slots kept s view key key None refl was_vacant

      pub stored-kept : AreCellsKept clients' slots'
      stored-kept = subst (λ m. AreCellsKept m slots') (sym listed) (put-kept clients slots kept slots' client key x was_vacant now_there now_others low high)

      pub stored-seen : ◌≡◌ {A = Store T} (record { cells = cells_kept slots'; clients = clients' }) (with_cell s client key x)
      stored-seen = ap (λ m. record { cells = cells_kept slots'; clients = m }) listed ∙ put-seen clients slots kept slots' client key x was_vacant now_there now_others low high s view
