-- What comes to a client that listens.
use Rattle.std.proofs.Common.{◌≡◌, ◌≤◌, ℕ, suc, ◌+◌, Bool, true, false, cond, eqb, List, [], ◌∷◌, Option, Some, refl, sym, ap, ◌∙◌, arith}
use Rattle.std.specs.Prelude.{nat_lt, min}
use Rattle.std.specs.List.{filter}
use Rattle.std.specs.Ordering.{nat_cmp}
use Rattle.std.specs.FinMap
use Rattle.std.specs.FinMap.{FinMap}
use Rattle.std.proofs.lemmas.Bool.Decides.{nat_tests}
use Rattle.std.proofs.lemmas.Bool.{eqb-true, eq-eqb, lt-ltb}
use Rattle.cell_pools.specs.Pools.{came_at, one_more, most_lost}
use Rattle.cell_pools.specs.declared.listening.Listening.{Listening}
use Rattle.seq_state.specs.declared.log.Arrival.{Arrival}
use Rattle.seq_state.specs.declared.log.Delivery.{Delivery}
use Rattle.seq_state.specs.State.{ClientPool, with_entry}
use Rattle.seq_state.specs.Step.{pool_has_room, offer, copies_with_room}
use Rattle.seq_state.specs.Changes.{count_at, HeardLaw}
use Rattle.seq_state.proofs.Effects.{get-put}

abbrev Pools : Type 0
Pools = FinMap nat_cmp ClientPool

abbrev after_one : Pools → Delivery → Pools
after_one pools d = with_entry pools d.target.client (offer (FinMap.get pools d.target.client) d)

-- ---- how many come at a moment

count-more : (c m : ℕ) (d : Delivery) (ds : List Delivery) → eqb d.target.client c ≡ true → eqb d.moment m ≡ true → count_at c m (d ∷ ds) ≡ suc (count_at c m ds)
count-more c m d ds k e = grind (arith, nat_tests)

count-others : (c m : ℕ) (d : Delivery) (ds : List Delivery) → eqb d.target.client c ≡ false → count_at c m (d ∷ ds) ≡ count_at c m ds
count-others c m d ds k = grind (arith, nat_tests)

count-less : (c m : ℕ) (d : Delivery) (ds : List Delivery) → count_at c m ds ≤ count_at c m (d ∷ ds)
count-less c m d ds = grind (arith, nat_tests)

-- one more leaves so much less for its moment, and all for any other
came-more : (c size : ℕ) (l : Listening) (d : Delivery) (ds : List Delivery) → eqb d.target.client c ≡ true → ((m : ℕ) → came_at m l + count_at c m (d ∷ ds) ≤ size) →
    (m : ℕ) → came_at m (one_more d.moment l) + count_at c m ds ≤ size
came-more c size l d ds k few m = go (eqb d.moment m) refl
  where
    go : (b : Bool) → eqb d.moment m ≡ b → cond b (came_at d.moment l + 1) 0 + count_at c m ds ≤ size
    go true e =
        let here : d.moment ≡ m = eqb-true d.moment m e in
        let all : came_at d.moment l + count_at c d.moment (d ∷ ds) ≤ size = few d.moment in
        let same : count_at c d.moment ds ≡ count_at c m ds = ap (λ n. count_at c n ds) here in
        omega (arith, count-more c d.moment d ds k (eq-eqb d.moment d.moment refl))
    go false e = let all : came_at m l + count_at c m (d ∷ ds) ≤ size = few m in omega (arith, count-less c m d ds)

-- ---- what finds room

module _ (c size : ℕ) (waiting : List Arrival) (lost : ℕ) where
  abbrev pool_at : Listening → Option ClientPool
  pool_at l = Some (record { size = size; waiting = waiting; lost = lost; listening = Some l })

  abbrev for_c : List Delivery → List Delivery
  for_c ds = filter (λ d. eqb d.target.client c) ds

  heard-from : (pools : Pools) (l : Listening) (ds : List Delivery) → FinMap.get pools c ≡ pool_at l → ((m : ℕ) → came_at m l + count_at c m ds ≤ size) → for_c (copies_with_room pools ds) ≡ for_c ds
  heard-from pools l [] e few = refl
  heard-from pools l (d ∷ ds) e few = go (eqb d.target.client c) refl (λ k. heard-from (after_one pools d) k ds)
    where
      rest : List Delivery
      rest = copies_with_room (after_one pools d) ds

      after : FinMap.get (after_one pools d) c ≡ cond (eqb c d.target.client) (offer (FinMap.get pools d.target.client) d) (FinMap.get pools c)
      after = get-put pools d.target.client (offer (FinMap.get pools d.target.client) d) c

      passed : (r : Bool) → eqb d.target.client c ≡ false → for_c rest ≡ for_c ds → for_c (cond r (d ∷ rest) rest) ≡ for_c (d ∷ ds)
      passed true k more = ap (λ b. cond b (d ∷ for_c rest) (for_c rest)) k ∙ more ∙ sym (ap (λ b. cond b (d ∷ for_c ds) (for_c ds)) k)
      passed false k more = more ∙ sym (ap (λ b. cond b (d ∷ for_c ds) (for_c ds)) k)

      taken : (r : Bool) → eqb d.target.client c ≡ true → r ≡ true → for_c rest ≡ for_c ds → for_c (cond r (d ∷ rest) rest) ≡ for_c (d ∷ ds)
      taken r k e more =
          ap (λ b. for_c (cond b (d ∷ rest) rest)) e ∙ ap (λ b. cond b (d ∷ for_c rest) (for_c rest)) k ∙ ap (λ xs. d ∷ xs) more
          ∙ sym (ap (λ b. cond b (d ∷ for_c ds) (for_c ds)) k)

      go : (b : Bool) → eqb d.target.client c ≡ b → ((k : Listening) → FinMap.get (after_one pools d) c ≡ pool_at k → ((m : ℕ) → came_at m k + count_at c m ds ≤ size) → for_c rest ≡ for_c ds) →
          for_c (copies_with_room pools (d ∷ ds)) ≡ for_c (d ∷ ds)
      go false k more =
          let apart : eqb c d.target.client ≡ false = grind (arith, nat_tests) in
          passed (pool_has_room d.moment (FinMap.get pools d.target.client)) k
          (more l (after ∙ ap (λ b. cond b (offer (FinMap.get pools d.target.client) d) (FinMap.get pools c)) apart ∙ e)
          (λ m. let all : came_at m l + count_at c m (d ∷ ds) ≤ size = few m in omega (arith, count-less c m d ds)))
      go true k more =
          let here : d.target.client ≡ c = eqb-true d.target.client c k in
          let at : FinMap.get pools d.target.client ≡ pool_at l = ap (FinMap.get pools) here ∙ e in
          let all : came_at d.moment l + count_at c d.moment (d ∷ ds) ≤ size = few d.moment in
          let one : count_at c d.moment (d ∷ ds) ≡ suc (count_at c d.moment ds) = count-more c d.moment d ds k (eq-eqb d.moment d.moment refl) in
          let room : nat_lt (came_at d.moment l) size ≡ true = lt-ltb (came_at d.moment l) size (omega arith) in
          let now : FinMap.get (after_one pools d) c ≡ pool_at (one_more d.moment l) =
          after ∙ ap (λ b. cond b (offer (FinMap.get pools d.target.client) d) (FinMap.get pools c)) (eq-eqb c d.target.client (sym here))
          ∙ ap (λ o. offer o d) at
          ∙ ap (λ b. Some (cond b (record { size = size; waiting = waiting; lost = lost; listening = Some (one_more d.moment l) }) (record { size = size; waiting = waiting; lost = min (lost + 1) most_lost; listening = Some l }))) room in
          taken (pool_has_room d.moment (FinMap.get pools d.target.client)) k (ap (pool_has_room d.moment) at ∙ room)
          (more (one_more d.moment l) now (came-more c size l d ds k few))

pub heard_law : HeardLaw
heard_law pools c p l ds e f few = heard-from c p.size p.waiting p.lost pools l ds (e ∙ ap (λ o. Some (record p { listening = o })) f) few
