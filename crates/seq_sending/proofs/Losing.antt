-- The lost copies, client by client.
use Rattle.std.proofs.Common.{◌≡◌, ◌⊎◌, inl, inr, ◌+◌, ◌-◌, ◌<◌, ◌≤◌, ℕ, false, cond, min, List, [], ◌∷◌, length, None, refl, sym, ap, subst, ◌∙◌, arith}
use Rattle.std.specs.Ordering.{nat_cmp}
use Rattle.std.specs.FinMap.{FinMap, get}
use Rattle.std.proofs.lemmas.Bool.{cases_lt, cases_eq, eq-eqb}
use Rattle.node_table.specs.declared.number.Addr.{Addr}
use Rattle.patch_graph.specs.Paths.{hops}
use Rattle.patch_graph.specs.declared.edge.Edge.{Edge}
use Rattle.seq_state.specs.declared.log.Delivery.{Delivery}
use Rattle.seq_state.specs.State.{Client}
use Rattle.seq_state.specs.Step.{pool_has_room, pools_after, copies_with_room}
use Rattle.seq_clients.specs.Roster.{room_of}
use Rattle.seq_sending.specs.Carrying.{copies_onward}
use Rattle.seq_sending.specs.KeptCounts.{AreCounts}
use Rattle.seq_sending.proofs.CopyCounts.{count_law}
use Rattle.seq_sending.specs.Rooms.{AreAt, for_client, copies_for, with_losses}
use Rattle.seq_sending.proofs.OneMoment.{onward-at}
use Rattle.seq_sending.proofs.Rooms.{Pools, firsts, has-room, losses_law}
use Rattle.std.specs.Prelude.{nat_lt, slice_index}
use Rattle.std.proofs.lemmas.List.{length-take}
use Rattle.std.proofs.lemmas.Bool.Decides.{nat_tests}

-- the pool at one row changed
module _ (moment : ℕ) (was now after : Pools) (row : ℕ) (n : ℕ) (here : get after (128 + row) ≡ with_losses moment n (get now (128 + row))) (others : (c : ℕ) → (c ≡ 128 + row → ⊥) → get after c ≡ get now c) where
  pub lose-more : (counts : List ℕ) → n ≡ slice_index counts row → get now (128 + row) ≡ get was (128 + row) →
      ((r : ℕ) → r < row → get now (128 + r) ≡ with_losses moment (slice_index counts r) (get was (128 + r))) →
      (r : ℕ) → r < row + 1 → get after (128 + r) ≡ with_losses moment (slice_index counts r) (get was (128 + r))
  lose-more counts at same before r low = go (cases_eq r row)
    where
      go : (r ≡ row) ⊎ (r ≡ row → ⊥) → get after (128 + r) ≡ with_losses moment (slice_index counts r) (get was (128 + r))
      go (inl e) =
          subst (λ k. get after (128 + k) ≡ with_losses moment (slice_index counts k) (get was (128 + k))) (sym e)
          (here ∙ ap (with_losses moment n) same ∙ ap (λ k. with_losses moment k (get was (128 + row))) at)
      go (inr apart) =
          let m : r < row = less r row low apart in
          others (128 + r) (λ f. apart (same-row r row f)) ∙ before r m
        where
          less : (r row : ℕ) → r < row + 1 → (r ≡ row → ⊥) → r < row
          less r row l a = omega arith

          same-row : (r row : ℕ) → 128 + r ≡ 128 + row → r ≡ row
          same-row r row f = omega arith

-- where all rows lost what is beyond their room, and nobody else has a pool
pub all-lost : (moment : ℕ) (was counted : Pools) (ds : List Delivery) (counts : List ℕ) →
    ((row : ℕ) → row < 64 → get counted (128 + row) ≡ with_losses moment (slice_index counts row) (get was (128 + row))) →
    ((c : ℕ) → (c < 128) ⊎ (192 ≤ c) → get counted c ≡ get was c) →
    ((c : ℕ) → (c < 128) ⊎ (192 ≤ c) → get was c ≡ None) →
    ((row : ℕ) → row < 64 → slice_index counts row ≡ copies_for (128 + row) ds) →
    (c : ℕ) → get counted c ≡ with_losses moment (copies_for c ds) (get was c)
all-lost moment was counted ds counts lost others nobody number c = go (cases_lt c 128) (cases_lt c 192)
  where
    out : (c < 128) ⊎ (192 ≤ c) → get counted c ≡ with_losses moment (copies_for c ds) (get was c)
    out o = others c o ∙ nobody c o ∙ ap (with_losses moment (copies_for c ds)) (sym (nobody c o))

    go : (c < 128) ⊎ (128 ≤ c) → (c < 192) ⊎ (192 ≤ c) → get counted c ≡ with_losses moment (copies_for c ds) (get was c)
    go (inl low) b = out (inl low)
    go (inr high) (inr above) = out (inr above)
    go (inr high) (inl below) =
        let row : ℕ = c - 128 in
        let e : 128 + row ≡ c = omega arith in
        let l : row < 64 = omega arith in
        subst (λ k. get counted k ≡ with_losses moment (copies_for k ds) (get was k)) e
        (lost row l ∙ ap (λ k. with_losses moment k (get was (128 + row))) (number row l))

-- where each client has no copies or no room, nothing is delivered
pub none-found : (moment : ℕ) (pools : Pools) (ds : List Delivery) → AreAt moment ds → ((c : ℕ) → (copies_for c ds ≡ 0) ⊎ (pool_has_room moment (get pools c) ≡ false)) → copies_with_room pools ds ≡ []
none-found moment pools ds all h = go (copies_with_room pools ds) refl
  where
    no-room : (n : ℕ) → nat_lt 0 n ≡ false → n ≡ 0
    no-room n e = grind (arith, nat_tests)

    none : (c : ℕ) → copies_for c (copies_with_room pools ds) ≡ 0
    none c = at (h c)
      where
        few : copies_for c (copies_with_room pools ds) ≡ min (room_of moment (get pools c)) (copies_for c ds)
        few = ap length (firsts moment c ds pools all) ∙ length-take (room_of moment (get pools c)) (for_client c ds)

        at : (copies_for c ds ≡ 0) ⊎ (pool_has_room moment (get pools c) ≡ false) → copies_for c (copies_with_room pools ds) ≡ 0
        at (inl e) = omega (arith, few)
        at (inr e) = let z : room_of moment (get pools c) ≡ 0 = no-room (room_of moment (get pools c)) (sym (has-room moment (get pools c)) ∙ e) in omega (arith, few)

    go : (es : List Delivery) → copies_with_room pools ds ≡ es → es ≡ []
    go [] e = refl
    go (d ∷ es) e =
        let c : ℕ = d.target.client in
        let one : copies_for c (d ∷ es) ≡ length (d ∷ for_client c es) = ap (λ b. length (cond b (d ∷ for_client c es) (for_client c es))) (eq-eqb c c refl) in
        let same : copies_for c (copies_with_room pools ds) ≡ copies_for c (d ∷ es) = ap (copies_for c) e in
        absurd (omega (arith, none c))

-- the same of the rows, where nobody else has a pool
pub rows-none : (moment : ℕ) (was counted : Pools) (ds : List Delivery) (counts : List ℕ) → AreAt moment ds →
    ((c : ℕ) → (c < 128) ⊎ (192 ≤ c) → get counted c ≡ get was c) →
    ((c : ℕ) → (c < 128) ⊎ (192 ≤ c) → get was c ≡ None) →
    ((row : ℕ) → row < 64 → slice_index counts row ≡ copies_for (128 + row) ds) →
    ((row : ℕ) → row < 64 → (slice_index counts row ≡ 0) ⊎ (pool_has_room moment (get counted (128 + row)) ≡ false)) →
    copies_with_room counted ds ≡ []
rows-none moment was counted ds counts all others nobody number rows = none-found moment counted ds all (λ c. go c (cases_lt c 128) (cases_lt c 192))
  where
    out : (c : ℕ) → (c < 128) ⊎ (192 ≤ c) → (copies_for c ds ≡ 0) ⊎ (pool_has_room moment (get counted c) ≡ false)
    out c o = inr (ap (pool_has_room moment) (others c o ∙ nobody c o))

    go : (c : ℕ) → (c < 128) ⊎ (128 ≤ c) → (c < 192) ⊎ (192 ≤ c) → (copies_for c ds ≡ 0) ⊎ (pool_has_room moment (get counted c) ≡ false)
    go c (inl low) b = out c (inl low)
    go c (inr high) (inr above) = out c (inr above)
    go c (inr high) (inl below) =
        let row : ℕ = c - 128 in
        let e : 128 + row ≡ c = omega arith in
        let l : row < 64 = omega arith in
        subst (λ k. (copies_for k ds ≡ 0) ⊎ (pool_has_room moment (get counted k) ≡ false)) e (turn row l (rows row l))
      where
        turn : (row : ℕ) → row < 64 → (slice_index counts row ≡ 0) ⊎ (pool_has_room moment (get counted (128 + row)) ≡ false) → (copies_for (128 + row) ds ≡ 0) ⊎ (pool_has_room moment (get counted (128 + row)) ≡ false)
        turn row l (inl z) = inl (sym (number row l) ∙ z)
        turn row l (inr z) = inr z

-- so the losses may be counted first, by the numbers of the rows
pub counted-first : (moment : ℕ) (was counted : Pools) (ds : List Delivery) (counts : List ℕ) → AreAt moment ds →
    ((row : ℕ) → row < 64 → get counted (128 + row) ≡ with_losses moment (slice_index counts row) (get was (128 + row))) →
    ((c : ℕ) → (c < 128) ⊎ (192 ≤ c) → get counted c ≡ get was c) →
    ((c : ℕ) → (c < 128) ⊎ (192 ≤ c) → get was c ≡ None) →
    ((row : ℕ) → row < 64 → slice_index counts row ≡ copies_for (128 + row) ds) →
    (pools_after counted (copies_with_room counted ds) ≡ pools_after was ds) × (copies_with_room counted ds ≡ copies_with_room was ds)
counted-first moment was counted ds counts all lost others nobody number = losses_law was counted moment ds all (all-lost moment was counted ds counts lost others nobody number)

-- where the counts are those of a message
module _ (clients : FinMap nat_cmp Client) (edges : List Edge) (moment : ℕ) (targets : List Addr) (message counts : List ℕ) (are : AreCounts clients edges targets message counts)
    (was counted : Pools) (others : (c : ℕ) → (c < 128) ⊎ (192 ≤ c) → get counted c ≡ get was c) (nobody : (c : ℕ) → (c < 128) ⊎ (192 ≤ c) → get was c ≡ None) where
  abbrev pub all-copies : List Delivery
  all-copies = copies_onward clients edges moment hops targets message

  all : AreAt moment all-copies
  all = onward-at moment clients edges hops targets message

  number : (row : ℕ) → row < 64 → slice_index counts row ≡ copies_for (128 + row) all-copies
  number row low = are.each row low ∙ sym (count_law clients edges moment (128 + row) hops targets message)

  pub walk-after-losses : ((row : ℕ) → row < 64 → get counted (128 + row) ≡ with_losses moment (slice_index counts row) (get was (128 + row))) →
      (pools_after counted (copies_with_room counted all-copies) ≡ pools_after was all-copies) × (copies_with_room counted all-copies ≡ copies_with_room was all-copies)
  walk-after-losses lost = counted-first moment was counted all-copies counts all lost others nobody number

  pub nothing-to-walk : ((row : ℕ) → row < 64 → (slice_index counts row ≡ 0) ⊎ (pool_has_room moment (get counted (128 + row)) ≡ false)) → copies_with_room counted all-copies ≡ []
  nothing-to-walk rows = rows-none moment was counted all-copies counts all others nobody number rows
