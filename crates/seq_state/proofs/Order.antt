-- The order of what is due.
use Rattle.std.proofs.Common.{◌≡◌, ℕ, zero, suc, ◌≤◌, ◌<◌, Bool, true, false, cond, eqb, ◌&&◌, ◌⊎◌, inl, inr, List, [], ◌∷◌, ◌++◌, map, refl, sym, ap, subst, ◌∙◌, arith, append-nil}
use Rattle.std.specs.Prelude.{nat_le, ◌==◌}
use Rattle.std.specs.List.{filter, list_all}
use Rattle.std.specs.Ordering.{nat_cmp}
use Rattle.std.specs.FinMap.{FinMap}
use Rattle.std.proofs.lemmas.Bool.Decides.{nat_tests}
use Rattle.std.proofs.lemmas.Bool.{eqb-true, eq-eqb, ne_eqb, le-leb, leb-true, leb-false, cases_lt}
use Rattle.seq_state.specs.State.{Client, OwnedPlayback, DueMessage}
use Rattle.seq_state.specs.Step.{all_at, Timed, playback_at, is_at, event_moment, upto}
use Rattle.seq_state.specs.Laws.{IsByMoment, DueLaw}
use Rattle.seq_state.proofs.Lists.{both_left, both_right, filter-append, list_all-append, list_all-weaker}

-- the events of a moment have that moment
all_at-moment : (clients : FinMap nat_cmp Client) (pending : List OwnedPlayback) (k : ℕ) → list_all (λ (x : Timed). eqb x.moment k) (all_at clients pending k) ≡ true
all_at-moment clients [] k = refl
all_at-moment clients (p ∷ ps) k = list_all-append (λ x. eqb x.moment k) (playback_at clients k p) (all_at clients ps k) (go (filter (λ e. is_at k (event_moment clients p e)) p.playback.events)) (all_at-moment clients ps k)
  where
    go : (es : List DueMessage) → list_all (λ (x : Timed). eqb x.moment k) (map (λ e. record { moment = k; client = p.client; port = p.playback.port; message = e.message }) es) ≡ true
    go [] = refl
    go (e ∷ es) = ap (λ b. b && list_all (λ (x : Timed). eqb x.moment k) (map (λ e. record { moment = k; client = p.client; port = p.playback.port; message = e.message }) es)) (eq-eqb k k refl) ∙ go es

filter-here : (k : ℕ) (xs : List Timed) → list_all (λ x. eqb x.moment k) xs ≡ true → filter (λ x. x.moment == k) xs ≡ xs
filter-here k [] h = refl
filter-here k (x ∷ xs) h = grind (arith, filter-here k xs)

filter-elsewhere : (j k : ℕ) → (j ≡ k → ⊥) → (xs : List Timed) → list_all (λ x. eqb x.moment k) xs ≡ true → filter (λ x. x.moment == j) xs ≡ []
filter-elsewhere j k ne [] h = refl
filter-elsewhere j k ne (x ∷ xs) h =
    let e : x.moment ≡ k = eqb-true x.moment k (both_left (eqb x.moment k) (list_all (λ (y : Timed). eqb y.moment k) xs) h) in
    ap (λ b. cond b (x ∷ filter (λ y. y.moment == j) xs) (filter (λ y. y.moment == j) xs)) (ne_eqb x.moment j (λ f. ne (sym f ∙ e)))
    ∙ filter-elsewhere j k ne xs (both_right (eqb x.moment k) (list_all (λ (y : Timed). eqb y.moment k) xs) h)

module _ (f : ℕ → List Timed) (at : (k : ℕ) → list_all (λ x. eqb x.moment k) (f k) ≡ true) where
  upto-none_later : (k m : ℕ) → m < k → filter (λ x. x.moment == k) (upto f m) ≡ []
  unfolding upto
  upto-none_later k zero l = filter-elsewhere k zero (λ e. omega arith) (f zero) (at zero)
  upto-none_later k (suc m) l =
      filter-append (λ x. x.moment == k) (upto f m) (f (suc m)) ∙ ap (λ xs. xs ++ filter (λ x. x.moment == k) (f (suc m))) (upto-none_later k m (omega arith))
      ∙ filter-elsewhere k (suc m) (λ e. omega arith) (f (suc m)) (at (suc m))

  upto-here : (k m : ℕ) → k ≤ m → filter (λ x. x.moment == k) (upto f m) ≡ f k
  unfolding upto
  upto-here k zero l = let z : k ≡ zero = omega arith in subst (λ j. filter (λ x. x.moment == j) (f zero) ≡ f j) (sym z) (filter-here zero (f zero) (at zero))
  upto-here k (suc m) l = filter-append (λ x. x.moment == k) (upto f m) (f (suc m)) ∙ go (cases_lt m k) (upto-here k m)
    where
      go : (m < k) ⊎ (k ≤ m) → (k ≤ m → filter (λ x. x.moment == k) (upto f m) ≡ f k) → filter (λ x. x.moment == k) (upto f m) ++ filter (λ x. x.moment == k) (f (suc m)) ≡ f k
      go (inl lt) more =
          let z : suc m ≡ k = omega arith in
          ap (λ xs. xs ++ filter (λ x. x.moment == k) (f (suc m))) (upto-none_later k m lt) ∙ subst (λ j. filter (λ x. x.moment == j) (f (suc m)) ≡ f j) z (filter-here (suc m) (f (suc m)) (at (suc m)))
      go (inr le) more = ap (λ xs. filter (λ x. x.moment == k) (upto f m) ++ xs) (filter-elsewhere k (suc m) (λ e. omega arith) (f (suc m)) (at (suc m))) ∙ append-nil (filter (λ x. x.moment == k) (upto f m)) ∙ more le

  up_to : (m : ℕ) → list_all (λ x. nat_le x.moment m) (upto f m) ≡ true
  unfolding upto
  up_to zero = list_all-weaker (λ x. eqb x.moment zero) (λ x. nat_le x.moment zero) (λ x h. grind (arith, nat_tests)) (f zero) (at zero)
  up_to (suc m) = list_all-append (λ x. nat_le x.moment (suc m)) (upto f m) (f (suc m))
      (list_all-weaker (λ x. nat_le x.moment m) (λ x. nat_le x.moment (suc m)) (λ x h. grind (arith, nat_tests)) (upto f m) (up_to m))
      (list_all-weaker (λ x. eqb x.moment (suc m)) (λ x. nat_le x.moment (suc m)) (λ x h. grind (arith, nat_tests)) (f (suc m)) (at (suc m)))

one_moment : (k : ℕ) (xs : List Timed) → list_all (λ x. eqb x.moment k) xs ≡ true → IsByMoment xs
one_moment k [] h = tt
one_moment k (x ∷ xs) h =
    let e : x.moment ≡ k = eqb-true x.moment k (both_left (eqb x.moment k) (list_all (λ (y : Timed). eqb y.moment k) xs) h) in
    let all : list_all (λ (y : Timed). eqb y.moment k) xs ≡ true = both_right (eqb x.moment k) (list_all (λ (y : Timed). eqb y.moment k) xs) h in
    (list_all-weaker (λ y. eqb y.moment k) (λ y. nat_le x.moment y.moment) (λ y f. le-leb x.moment y.moment (let g : y.moment ≡ k = eqb-true y.moment k f in omega arith)) xs all, one_moment k xs all)

joined_by_moment : (m : ℕ) (xs ys : List Timed) → IsByMoment xs → IsByMoment ys → list_all (λ x. nat_le x.moment m) xs ≡ true → list_all (λ y. nat_le m y.moment) ys ≡ true → IsByMoment (xs ++ ys)
joined_by_moment m [] ys p q a b = q
joined_by_moment m (x ∷ xs) ys p q a b =
    let here : x.moment ≤ m = leb-true x.moment m (both_left (nat_le x.moment m) (list_all (λ (y : Timed). nat_le y.moment m) xs) a) in (
      list_all-append (λ y. nat_le x.moment y.moment) xs ys p.0
          (list_all-weaker (λ y. nat_le m y.moment) (λ y. nat_le x.moment y.moment) (λ y h. le-leb x.moment y.moment (let g : m ≤ y.moment = leb-true m y.moment h in omega arith)) ys b),
      joined_by_moment m xs ys p.1 q (both_right (nat_le x.moment m) (list_all (λ (y : Timed). nat_le y.moment m) xs) a) b,
    )

upto_by_moment : (f : ℕ → List Timed) (at : (k : ℕ) → list_all (λ x. eqb x.moment k) (f k) ≡ true) (m : ℕ) → IsByMoment (upto f m)
unfolding upto
upto_by_moment f at zero = one_moment zero (f zero) (at zero)
upto_by_moment f at (suc m) =
    joined_by_moment m (upto f m) (f (suc m)) (upto_by_moment f at m) (one_moment (suc m) (f (suc m)) (at (suc m))) (up_to f at m)
    (list_all-weaker (λ x. eqb x.moment (suc m)) (λ x. nat_le m x.moment) (λ x h. le-leb m x.moment (let g : x.moment ≡ suc m = eqb-true x.moment (suc m) h in omega arith)) (f (suc m)) (at (suc m)))

pub due_law : DueLaw
due_law s m = (upto_by_moment f at m, λ k. go k (nat_le k m) refl)
  where
    f : ℕ → List Timed
    f = all_at s.clients s.pending

    at : (k : ℕ) → list_all (λ (x : Timed). eqb x.moment k) (f k) ≡ true
    at k = all_at-moment s.clients s.pending k

    go : (k : ℕ) (b : Bool) → nat_le k m ≡ b → filter (λ x. x.moment == k) (upto f m) ≡ cond b (f k) []
    go k true h = upto-here f at k m (leb-true k m h)
    go k false h = upto-none_later f at k m (leb-false k m h)
