-- What of one moment finds room and what is lost, client by client.
use Rattle.std.proofs.Common.{◌≡◌, ℕ, zero, suc, ◌+◌, ◌-◌, ◌≤◌, min, Bool, true, false, cond, eqb, List, [], ◌∷◌, ◌++◌, length, take, map, Option, Some, None, refl, sym, ap, ◌∙◌, arith, append_assoc, append-nil, length-append}
use Rattle.std.specs.Prelude.{nat_lt}
use Rattle.std.specs.List.{list_all}
use Rattle.std.specs.Ordering.{nat_cmp}
use Rattle.std.specs.Cmp.{nat_cmp_total}
use Rattle.std.specs.FinMap
use Rattle.std.specs.FinMap.{FinMap}
use Rattle.std.proofs.lemmas.Bool.Decides.{nat_tests}
use Rattle.std.proofs.lemmas.Bool.{eqb-true, eq-eqb}
use Rattle.std.proofs.lemmas.List.{take-take, length-take}
use Rattle.cell_pools.specs.Pools as cells
use Rattle.cell_pools.specs.Pools.{most_lost, came_at, one_more, taken_up, taken_at, room_in, after_losses, with_item}
use Rattle.cell_pools.specs.declared.listening.Listening.{Listening}
use Rattle.seq_state.specs.declared.log.Arrival.{Arrival}
use Rattle.seq_state.specs.declared.log.Delivery.{Delivery}
use Rattle.seq_state.specs.State.{ClientPool, with_entry}
use Rattle.seq_state.specs.Step.{arrival, pool_has_room, offer, pools_after, copies_with_room}
use Rattle.seq_state.proofs.Effects.{get-put}
use Rattle.seq_state.proofs.Lists.{both_left, both_right}
use Rattle.seq_state.proofs.Settling.{offered-append, delivered-append}
use Rattle.seq_clients.specs.Roster.{room_of}
use Rattle.seq_sending.specs.Rooms.{AreAt, for_client, copies_for, so_many_more, with_arrivals, after_all, pool_after, with_losses}
use Rattle.seq_sending.specs.Laws.{EachPoolLaw, FirstLaw, LossesLaw, CutLaw, OnwardLaw}
use Rattle.seq_sending.proofs.OneMoment.{kept-at}

abbrev pub Pools : Type 0
Pools = FinMap nat_cmp ClientPool

abbrev after_one : Pools → Delivery → Pools
after_one pools d = with_entry pools d.target.client (offer (FinMap.get pools d.target.client) d)

-- ---- numbers

less : (size n : ℕ) → nat_lt n size ≡ true → size - n ≡ suc (size - (n + 1))
less size n h = grind (arith, nat_tests)

none : (size n : ℕ) → nat_lt n size ≡ false → size - n ≡ 0
none size n h = grind (arith, nat_tests)

some : (n : ℕ) → nat_lt 0 n ≡ true → n ≡ suc (n - 1)
some n h = grind (arith, nat_tests)

no : (n : ℕ) → nat_lt 0 n ≡ false → n ≡ 0
no n h = grind (arith, nat_tests)

turned : (a b : ℕ) → eqb a b ≡ eqb b a
turned a b = grind (arith, nat_tests)

take-none : {X : Type 0} (n : ℕ) → let nil : List X = [] in take n nil ≡ nil
take-none zero = refl
take-none (suc n) = refl

-- ---- a pool that lost

abbrev lost_of : ClientPool → ClientPool
lost_of p = record p { lost = min (p.lost + 1) most_lost }

lost-again : (l n most : ℕ) → min (min (l + 1) most + suc n) most ≡ min (l + suc (suc n)) most
lost-again l n most = omega arith

losses-one : (p : ClientPool) (n : ℕ) → after_losses n (lost_of p) ≡ after_losses (suc n) p
losses-one p zero = refl
losses-one p (suc n) = ap (λ l. record p { lost = l }) (lost-again p.lost n most_lost)

not-none : (d : Delivery) (ds : List Delivery) → d ∷ ds ≡ [] → ⊥
not-none d ds e = cc

-- ---- the pool of each client

at-client : (pools : Pools) (d : Delivery) (c : ℕ) (b : Bool) → eqb d.target.client c ≡ b → FinMap.get (after_one pools d) c ≡ cond b (offer (FinMap.get pools c) d) (FinMap.get pools c)
at-client pools d c true h =
    let k : ℕ = d.target.client in
    get-put pools k (offer (FinMap.get pools k) d) c ∙ ap (λ b. cond b (offer (FinMap.get pools k) d) (FinMap.get pools c)) (turned c k ∙ h)
    ∙ ap (λ q. offer (FinMap.get pools q) d) (eqb-true k c h)
at-client pools d c false h =
    let k : ℕ = d.target.client in
    get-put pools k (offer (FinMap.get pools k) d) c ∙ ap (λ b. cond b (offer (FinMap.get pools k) d) (FinMap.get pools c)) (turned c k ∙ h)

-- ---- at one moment

module _ (moment : ℕ) where
  first-at : (d : Delivery) (ds : List Delivery) → AreAt moment (d ∷ ds) → d.moment ≡ moment
  first-at d ds h = eqb-true d.moment moment (both_left (eqb d.moment moment) (list_all (λ (x : Delivery). eqb x.moment moment) ds) h)

  rest-at : (d : Delivery) (ds : List Delivery) → AreAt moment (d ∷ ds) → AreAt moment ds
  rest-at d ds h = both_right (eqb d.moment moment) (list_all (λ (x : Delivery). eqb x.moment moment) ds) h

  -- ---- one pool

  abbrev kept_of : ClientPool → Delivery → ClientPool
  kept_of p d = with_item moment (arrival d) p p.listening

  pub has-room : (o : Option ClientPool) → pool_has_room moment o ≡ nat_lt 0 (room_of moment o)
  has-room None = refl
  has-room (Some p) = tests (taken_at moment p) p.size
    where
      tests : (n size : ℕ) → nat_lt n size ≡ nat_lt 0 (size - n)
      tests n size = grind (arith, nat_tests)

  came-more : (l : Listening) → came_at moment (one_more moment l) ≡ came_at moment l + 1
  came-more l = ap (λ b. cond b (came_at moment l + 1) 0) (eq-eqb moment moment refl)

  -- one item more takes up one place more
  taken-more : (p : ClientPool) (x : Arrival) (l : Option Listening) → p.listening ≡ l → taken_at moment (with_item moment x p l) ≡ taken_at moment p + 1
  taken-more p x None e =
      ap (taken_up moment (length (p.waiting ++ x ∷ []))) e ∙ length-append p.waiting (x ∷ [])
      ∙ ap (λ l. taken_up moment (length p.waiting) l + 1) (sym e)
  taken-more p x (Some l) e = came-more l ∙ ap (λ k. taken_up moment (length p.waiting) k + 1) (sym e)

  same-size : (p : ClientPool) (x : Arrival) (l : Option Listening) → (with_item moment x p l).size ≡ p.size
  same-size p x None = refl
  same-size p x (Some l) = refl

  room-kept : (p : ClientPool) (d : Delivery) → cells.has_room moment p ≡ true → room_in moment p ≡ suc (room_in moment (kept_of p d))
  room-kept p d h =
      less p.size (taken_at moment p) h ∙ ap (λ n. suc (p.size - n)) (sym (taken-more p (arrival d) p.listening refl))
      ∙ ap (λ n. suc (n - taken_at moment (kept_of p d))) (sym (same-size p (arrival d) p.listening))

  -- no item more
  arrivals-none : (p : ClientPool) (l : Option Listening) → p.listening ≡ l → with_arrivals moment [] p l ≡ p
  arrivals-none p None e = ap (λ xs. record p { waiting = xs }) (append-nil p.waiting)
  arrivals-none p (Some l) e = ap (λ k. record p { listening = k }) (sym e)

  -- one item more, and then others
  many-more : (n : ℕ) (l : Listening) → so_many_more moment n (one_more moment l) ≡ so_many_more moment (suc n) l
  many-more zero l = refl
  many-more (suc n) l =
      let e : came_at moment (one_more moment l) + suc n ≡ came_at moment l + suc (suc n) = omega (arith, came-more l) in
      ap (λ k. record { moment = moment; count = k }) e

  arrivals-cons : (p : ClientPool) (x : Arrival) (xs : List Arrival) (l : Option Listening) → p.listening ≡ l →
      with_arrivals moment xs (with_item moment x p l) (with_item moment x p l).listening ≡ with_arrivals moment (x ∷ xs) p l
  arrivals-cons p x xs None e =
      ap (with_arrivals moment xs (record p { waiting = p.waiting ++ x ∷ [] })) e
      ∙ ap (λ ws. record p { waiting = ws }) (append_assoc p.waiting (x ∷ []) xs)
  arrivals-cons p x xs (Some l) e = ap (λ k. record p { listening = Some k }) (many-more (length xs) l)

  -- items more where some were lost
  arrivals-lost : (p : ClientPool) (k : ℕ) (xs : List Arrival) (l : Option Listening) → with_arrivals moment xs (after_losses (suc k) p) l ≡ after_losses (suc k) (with_arrivals moment xs p l)
  arrivals-lost p k xs None = refl
  arrivals-lost p k xs (Some l) = refl

  -- a pool to which all these were offered, when it had room for so many
  abbrev took : ClientPool → List Delivery → ClientPool
  took p ds = with_arrivals moment (map arrival ds) p p.listening

  -- ---- one copy

  room-offer : (o : Option ClientPool) (d : Delivery) → d.moment ≡ moment → room_of moment (offer o d) ≡ room_of moment o - 1
  room-offer None d e = refl
  room-offer (Some p) d e = ap (λ m. room_of moment (Some (cells.after_offer m p (arrival d)))) e ∙ go (cells.has_room moment p) refl
    where
      go : (b : Bool) → cells.has_room moment p ≡ b → room_of moment (Some (cond b (kept_of p d) (lost_of p))) ≡ room_in moment p - 1
      go true h = omega (arith, room-kept p d h)
      go false h = omega (arith, none p.size (taken_at moment p) h)

  -- one copy, and then others
  offer-step : (o : Option ClientPool) (d : Delivery) (ds : List Delivery) → d.moment ≡ moment → pool_after moment (offer o d) ds ≡ pool_after moment o (d ∷ ds)
  offer-step None d ds at = refl
  offer-step (Some p) d ds at = ap (λ m. pool_after moment (Some (cells.after_offer m p (arrival d))) ds) at ∙ go (cells.has_room moment p) refl
    where
      go : (b : Bool) → cells.has_room moment p ≡ b → pool_after moment (Some (cond b (kept_of p d) (lost_of p))) ds ≡ Some (after_all moment p (room_in moment p) (d ∷ ds))
      go true h =
          let r : ℕ = room_in moment (kept_of p d) in
          let e : room_in moment p ≡ suc r = room-kept p d h in
          let f : suc (length ds) - suc r ≡ length ds - r = omega arith in
          ap (λ q. Some (after_losses (length ds - r) q)) (arrivals-cons p (arrival d) (map arrival (take r ds)) p.listening refl)
          ∙ ap (λ n. Some (after_losses n (took p (d ∷ take r ds)))) (sym f)
          ∙ ap (λ n. Some (after_all moment p n (d ∷ ds))) (sym e)
      go false h =
          let e : room_in moment p ≡ 0 = none p.size (taken_at moment p) h in
          let f : length ds - 0 ≡ length ds = omega arith in
          let g : suc (length ds) - 0 ≡ suc (length ds) = omega arith in
          ap (λ n. Some (after_all moment (lost_of p) n ds)) e
          ∙ ap (λ n. Some (after_losses n (took (lost_of p) []))) f
          ∙ ap (λ q. Some (after_losses (length ds) q)) (arrivals-none (lost_of p) p.listening refl)
          ∙ ap Some (losses-one p (length ds))
          ∙ ap (λ q. Some (after_losses (suc (length ds)) q)) (sym (arrivals-none p p.listening refl))
          ∙ ap (λ n. Some (after_losses n (took p []))) (sym g)
          ∙ ap (λ n. Some (after_all moment p n (d ∷ ds))) (sym e)

  -- no copy
  offer-none : (o : Option ClientPool) → pool_after moment o [] ≡ o
  offer-none None = refl
  offer-none (Some p) =
      let r : ℕ = room_in moment p in
      let e : 0 - r ≡ 0 = omega arith in
      ap (λ n. Some (after_losses n (took p (take r [])))) e
      ∙ ap (λ ds. Some (took p ds)) (take-none r)
      ∙ ap Some (arrivals-none p p.listening refl)

  room-one : (pools : Pools) (d : Delivery) (c : ℕ) → d.moment ≡ moment → (b : Bool) → eqb d.target.client c ≡ b →
      room_of moment (FinMap.get (after_one pools d) c) ≡ cond b (room_of moment (FinMap.get pools c) - 1) (room_of moment (FinMap.get pools c))
  room-one pools d c at true h = ap (room_of moment) (at-client pools d c true h) ∙ room-offer (FinMap.get pools c) d at
  room-one pools d c at false h = ap (room_of moment) (at-client pools d c false h)

  -- ---- all copies

  pub each_pool : (c : ℕ) (ds : List Delivery) (pools : Pools) → AreAt moment ds → FinMap.get (pools_after pools ds) c ≡ pool_after moment (FinMap.get pools c) (for_client c ds)
  each_pool c [] pools all = sym (offer-none (FinMap.get pools c))
  each_pool c (d ∷ ds) pools all = each_pool c ds (after_one pools d) (rest-at d ds all) ∙ go (eqb d.target.client c) refl
    where
      go : (b : Bool) → eqb d.target.client c ≡ b → pool_after moment (FinMap.get (after_one pools d) c) (for_client c ds) ≡ pool_after moment (FinMap.get pools c) (cond b (d ∷ for_client c ds) (for_client c ds))
      go true h = ap (λ o. pool_after moment o (for_client c ds)) (at-client pools d c true h) ∙ offer-step (FinMap.get pools c) d (for_client c ds) (first-at d ds all)
      go false h = ap (λ o. pool_after moment o (for_client c ds)) (at-client pools d c false h)

  -- whether the client of a copy has room
  room-now : (pools : Pools) (d : Delivery) → d.moment ≡ moment → pool_has_room d.moment (FinMap.get pools d.target.client) ≡ nat_lt 0 (room_of moment (FinMap.get pools d.target.client))
  room-now pools d at = ap (λ m. pool_has_room m (FinMap.get pools d.target.client)) at ∙ has-room (FinMap.get pools d.target.client)

  -- the room at the client of a copy that is the first
  room-first : (pools : Pools) (d : Delivery) (c : ℕ) → d.moment ≡ moment → (b : Bool) → eqb d.target.client c ≡ true → pool_has_room d.moment (FinMap.get pools d.target.client) ≡ b →
      nat_lt 0 (room_of moment (FinMap.get pools c)) ≡ b
  room-first pools d c at b h e = ap (λ q. nat_lt 0 (room_of moment (FinMap.get pools q))) (sym (eqb-true d.target.client c h)) ∙ sym (room-now pools d at) ∙ e

  pub firsts : (c : ℕ) (ds : List Delivery) (pools : Pools) → AreAt moment ds → for_client c (copies_with_room pools ds) ≡ take (room_of moment (FinMap.get pools c)) (for_client c ds)
  firsts c [] pools all = sym (take-none (room_of moment (FinMap.get pools c)))
  firsts c (d ∷ ds) pools all = go (pool_has_room d.moment (FinMap.get pools d.target.client)) (eqb d.target.client c) refl refl (firsts c ds (after_one pools d) (rest-at d ds all))
    where
      at : d.moment ≡ moment
      at = first-at d ds all

      k : ℕ
      k = d.target.client

      rest : List Delivery
      rest = copies_with_room (after_one pools d) ds

      xs : List Delivery
      xs = for_client c ds

      room : ℕ
      room = room_of moment (FinMap.get pools c)

      go : (r b : Bool) → pool_has_room d.moment (FinMap.get pools k) ≡ r → eqb k c ≡ b → for_client c rest ≡ take (room_of moment (FinMap.get (after_one pools d) c)) xs →
          for_client c (cond r (d ∷ rest) rest) ≡ take room (cond b (d ∷ xs) xs)
      go true true hr hb more =
          let e : room ≡ suc (room - 1) = some room (room-first pools d c at true hb hr) in
          ap (λ b. cond b (d ∷ for_client c rest) (for_client c rest)) hb ∙ ap (λ ys. d ∷ ys) more
          ∙ ap (λ n. d ∷ take n xs) (room-one pools d c at true hb) ∙ ap (λ n. take n (d ∷ xs)) (sym e)
      go true false hr hb more =
          ap (λ b. cond b (d ∷ for_client c rest) (for_client c rest)) hb ∙ more ∙ ap (λ n. take n xs) (room-one pools d c at false hb)
      go false true hr hb more =
          let e : room ≡ 0 = no room (room-first pools d c at false hb hr) in
          let f : room - 1 ≡ 0 = omega arith in
          more ∙ ap (λ n. take n xs) (room-one pools d c at true hb ∙ f) ∙ ap (λ n. take n (d ∷ xs)) (sym e)
      go false false hr hb more = more ∙ ap (λ n. take n xs) (room-one pools d c at false hb)

  -- what room is left
  pub room-left : (c : ℕ) (ds : List Delivery) (pools : Pools) → AreAt moment ds → room_of moment (FinMap.get (pools_after pools ds) c) ≡ room_of moment (FinMap.get pools c) - copies_for c ds
  room-left c [] pools all = let e : room_of moment (FinMap.get pools c) ≡ room_of moment (FinMap.get pools c) - 0 = omega arith in e
  room-left c (d ∷ ds) pools all = room-left c ds (after_one pools d) (rest-at d ds all) ∙ go (eqb d.target.client c) refl
    where
      at : d.moment ≡ moment
      at = first-at d ds all

      go : (b : Bool) → eqb d.target.client c ≡ b →
          room_of moment (FinMap.get (after_one pools d) c) - length (for_client c ds) ≡ room_of moment (FinMap.get pools c) - length (cond b (d ∷ for_client c ds) (for_client c ds))
      go true h = omega (arith, room-one pools d c at true h)
      go false h = omega (arith, room-one pools d c at false h)

  abbrev pub SameRoom : Pools → Pools → Type 0
  SameRoom a b = (c : ℕ) → room_of moment (FinMap.get a c) ≡ room_of moment (FinMap.get b c)

  after-same : (a b : Pools) (d : Delivery) → d.moment ≡ moment → SameRoom a b → SameRoom (after_one a d) (after_one b d)
  after-same a b d at same c = go (eqb d.target.client c) refl
    where
      go : (t : Bool) → eqb d.target.client c ≡ t → room_of moment (FinMap.get (after_one a d) c) ≡ room_of moment (FinMap.get (after_one b d) c)
      go true h = room-one a d c at true h ∙ ap (λ n. n - 1) (same c) ∙ sym (room-one b d c at true h)
      go false h = room-one a d c at false h ∙ same c ∙ sym (room-one b d c at false h)

  -- what is delivered hangs on the room alone
  pub by-room : (ds : List Delivery) (a b : Pools) → AreAt moment ds → SameRoom a b → copies_with_room a ds ≡ copies_with_room b ds
  by-room [] a b all same = refl
  by-room (d ∷ ds) a b all same =
      let k : ℕ = d.target.client in
      let at : d.moment ≡ moment = first-at d ds all in
      let e : pool_has_room d.moment (FinMap.get a k) ≡ pool_has_room d.moment (FinMap.get b k) = room-now a d at ∙ ap (λ n. nat_lt 0 n) (same k) ∙ sym (room-now b d at) in
      ap (λ r. cond r (d ∷ copies_with_room (after_one a d) ds) (copies_with_room (after_one a d) ds)) e
      ∙ ap (λ rest. cond (pool_has_room d.moment (FinMap.get b k)) (d ∷ rest) rest) (by-room ds (after_one a d) (after_one b d) (rest-at d ds all) (after-same a b d at same))

  -- ---- nothing finds room

  abbrev LessRoom : Pools → Pools → Type 0
  LessRoom b a = (c : ℕ) → room_of moment (FinMap.get b c) ≤ room_of moment (FinMap.get a c)

  pub none-later : (ds : List Delivery) (a b : Pools) → AreAt moment ds → LessRoom b a → copies_with_room a ds ≡ [] → copies_with_room b ds ≡ []
  none-later [] a b all less e = refl
  none-later (d ∷ ds) a b all less e =
      go (pool_has_room d.moment (FinMap.get a k)) (pool_has_room d.moment (FinMap.get b k)) refl refl e (λ h. none-later ds a' b' (rest-at d ds all) still h)
    where
      at : d.moment ≡ moment
      at = first-at d ds all

      k : ℕ
      k = d.target.client

      a' : Pools
      a' = after_one a d

      b' : Pools
      b' = after_one b d

      still : LessRoom b' a'
      still c = by (eqb k c) refl
        where
          by : (t : Bool) → eqb k c ≡ t → room_of moment (FinMap.get b' c) ≤ room_of moment (FinMap.get a' c)
          by true h = omega (arith, room-one a d c at true h, room-one b d c at true h, less c)
          by false h = omega (arith, room-one a d c at false h, room-one b d c at false h, less c)

      fewer : (m n : ℕ) → nat_lt 0 m ≡ false → nat_lt 0 n ≡ true → n ≤ m → ⊥
      fewer m n h i l = grind (arith, nat_tests)

      go : (r s : Bool) → pool_has_room d.moment (FinMap.get a k) ≡ r → pool_has_room d.moment (FinMap.get b k) ≡ s → cond r (d ∷ copies_with_room a' ds) (copies_with_room a' ds) ≡ [] →
          (copies_with_room a' ds ≡ [] → copies_with_room b' ds ≡ []) → cond s (d ∷ copies_with_room b' ds) (copies_with_room b' ds) ≡ []
      go true s hr hs e more = absurd (not-none d (copies_with_room a' ds) e)
      go false true hr hs e more = absurd (fewer (room_of moment (FinMap.get a k)) (room_of moment (FinMap.get b k)) (sym (room-now a d at) ∙ hr) (sym (room-now b d at) ∙ hs) (less k))
      go false false hr hs e more = more e

  -- ---- lost copies that were counted before

  losses-room : (n : ℕ) (o : Option ClientPool) → room_of moment (with_losses moment n o) ≡ room_of moment o
  losses-room n None = refl
  losses-room n (Some p) = go (n - room_in moment p)
    where
      go : (k : ℕ) → room_of moment (Some (after_losses k p)) ≡ room_in moment p
      go zero = refl
      go (suc k) = refl

  -- a pool at which the copies beyond its room were counted, offered the others
  losses-offer : (o : Option ClientPool) (ds : List Delivery) → pool_after moment (with_losses moment (length ds) o) (take (room_of moment o) ds) ≡ pool_after moment o ds
  losses-offer None ds = refl
  losses-offer (Some p) ds = go (length ds - room_in moment p)
    where
      r : ℕ
      r = room_in moment p

      few : length (take r ds) - r ≡ 0
      few = omega (arith, length-take r ds)

      take-twice : take r (take r ds) ≡ take r ds
      take-twice = let l : r ≤ r = omega arith in take-take r r ds l

      go : (k : ℕ) → pool_after moment (Some (after_losses k p)) (take r ds) ≡ Some (after_losses k (took p (take r ds)))
      go zero =
          ap (λ n. Some (after_losses n (took p (take r (take r ds))))) few
          ∙ ap (λ xs. Some (took p xs)) take-twice
      go (suc k) =
          ap (λ n. Some (after_losses n (took (after_losses (suc k) p) (take r (take r ds))))) few
          ∙ ap (λ xs. Some (took (after_losses (suc k) p) xs)) take-twice
          ∙ ap Some (arrivals-lost p k (map arrival (take r ds)) p.listening)

  -- the same room after all copies, and after those that were delivered
  pub kept-room : (pools : Pools) (ds : List Delivery) → AreAt moment ds → SameRoom (pools_after pools ds) (pools_after pools (copies_with_room pools ds))
  kept-room pools ds all c =
      let a : room_of moment (FinMap.get (pools_after pools ds) c) ≡ room_of moment (FinMap.get pools c) - copies_for c ds = room-left c ds pools all in
      let b : room_of moment (FinMap.get (pools_after pools (copies_with_room pools ds)) c) ≡ room_of moment (FinMap.get pools c) - copies_for c (copies_with_room pools ds) =
      room-left c (copies_with_room pools ds) pools (kept-at moment pools ds all) in
      let n : copies_for c (copies_with_room pools ds) ≡ min (room_of moment (FinMap.get pools c)) (copies_for c ds) =
      ap length (firsts c ds pools all) ∙ length-take (room_of moment (FinMap.get pools c)) (for_client c ds) in
      omega arith

-- ---- the laws

pub each_pool_law : EachPoolLaw
each_pool_law pools moment ds c all = each_pool moment c ds pools all

pub first_law : FirstLaw
first_law pools moment ds c all = firsts moment c ds pools all

pub losses_law : LossesLaw
losses_law pools counted moment ds all are =
    let same : SameRoom moment counted pools = λ c. ap (room_of moment) (are c) ∙ losses-room moment (copies_for c ds) (FinMap.get pools c) in
    let said : copies_with_room counted ds ≡ copies_with_room pools ds = by-room moment ds counted pools all same in (
      FinMap.same_map nat_cmp_total FinMap.nat_cmp-IsAntisymmetric (pools_after counted (copies_with_room counted ds)) (pools_after pools ds) (λ c.
          each_pool moment c (copies_with_room counted ds) counted (kept-at moment counted ds all)
          ∙ ap (pool_after moment (FinMap.get counted c)) (ap (for_client c) said ∙ firsts moment c ds pools all)
          ∙ ap (λ o. pool_after moment o (take (room_of moment (FinMap.get pools c)) (for_client c ds))) (are c)
          ∙ losses-offer moment (FinMap.get pools c) (for_client c ds)
          ∙ sym (each_pool moment c ds pools all)),
      said,
    )

pub cut_law : CutLaw
cut_law pools moment ds more all others e = none-later moment ds pools (pools_after pools more) all (λ c. omega (arith, room-left moment c more pools others)) e

pub onward_law : OnwardLaw
onward_law pools moment ds more all others =
    let kept : Pools = pools_after pools (copies_with_room pools ds) in
    let said : copies_with_room pools (ds ++ more) ≡ copies_with_room pools ds ++ copies_with_room kept more =
    sym (delivered-append pools ds more) ∙ ap (λ xs. copies_with_room pools ds ++ xs) (by-room moment more (pools_after pools ds) kept others (kept-room moment pools ds all)) in (
      ap (pools_after pools) said ∙ sym (offered-append pools (copies_with_room pools ds) (copies_with_room kept more)),
      said,
    )
