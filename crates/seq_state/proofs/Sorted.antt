-- What is due, as a sort.
use Rattle.std.proofs.Common.{◌≡◌, ℕ, zero, suc, ◌≤◌, ◌<◌, Bool, true, false, cond, eqb, List, [], ◌∷◌, ◌++◌, map, Option, Some, None, refl, sym, ap, ◌∙◌, arith}
use Rattle.std.specs.Prelude.{nat_le}
use Rattle.std.specs.List.{filter, filter_map, cons_option, list_all}
use Rattle.std.specs.Ordering.{nat_cmp}
use Rattle.std.specs.FinMap.{FinMap}
use Rattle.std.proofs.lemmas.Bool.Decides.{nat_tests}
use Rattle.std.proofs.lemmas.Bool.{eqb-true}
use Rattle.seq_state.specs.State.{Client, DueMessage, OwnedPlayback}
use Rattle.seq_state.specs.Step.{Timed, event_moment, is_at, playback_at, all_at, upto}
use Rattle.seq_state.specs.Laws.{IsByMoment, timed_at, timed_of, all_timed, with_timed, stable_sort, SortLaw}
use Rattle.seq_state.proofs.Lists.{filter-flat_map, flat_map-agree}
use Rattle.seq_state.proofs.Kin.{upto-agree}

abbrev at : ℕ → Timed → Bool
at k t = eqb t.moment k

abbrev pub by : ℕ → Timed → Bool
by m t = nat_le t.moment m

-- ---- the events of one moment

timed_at-here : (clients : FinMap nat_cmp Client) (k : ℕ) (p : OwnedPlayback) (es : List DueMessage) →
    map (λ e. let t : Timed = record { moment = k; client = p.client; port = p.playback.port; message = e.message } in t) (filter (λ e. is_at k (event_moment clients p e)) es)
    ≡ filter (at k) (filter_map (λ e. timed_at p e (event_moment clients p e)) es)
timed_at-here clients k p [] = refl
timed_at-here clients k p (e ∷ es) = go (event_moment clients p e) (timed_at-here clients k p es)
  where
    here : ℕ → Timed
    here j = record { moment = j; client = p.client; port = p.playback.port; message = e.message }

    tail : List DueMessage
    tail = filter (λ e. is_at k (event_moment clients p e)) es

    all : List Timed
    all = filter_map (λ e. timed_at p e (event_moment clients p e)) es

    timed : List DueMessage → List Timed
    timed xs = map (λ e. record { moment = k; client = p.client; port = p.playback.port; message = e.message }) xs

    one : (j : ℕ) (b : Bool) → eqb j k ≡ b → timed tail ≡ filter (at k) all → timed (cond b (e ∷ tail) tail) ≡ cond b (here j ∷ filter (at k) all) (filter (at k) all)
    one j true h more = ap (λ n. here n ∷ timed tail) (sym (eqb-true j k h)) ∙ ap (λ ts. here j ∷ ts) more
    one j false h more = more

    go : (o : Option ℕ) → timed tail ≡ filter (at k) all → timed (cond (is_at k o) (e ∷ tail) tail) ≡ filter (at k) (cons_option (timed_at p e o) all)
    go None more = more
    go (Some j) more = one j (eqb j k) refl more

all_at-timed : (clients : FinMap nat_cmp Client) (pending : List OwnedPlayback) (k : ℕ) → all_at clients pending k ≡ filter (at k) (all_timed clients pending)
all_at-timed clients pending k =
    flat_map-agree (playback_at clients k) (λ p. filter (at k) (timed_of clients p)) (λ p. timed_at-here clients k p p.playback.events) pending
    ∙ sym (filter-flat_map (at k) (timed_of clients) pending)

-- ---- the sort

filter-placed : (k : ℕ) (t : Timed) (xs : List Timed) → filter (at k) (with_timed t xs) ≡ filter (at k) (t ∷ xs)
filter-placed k t [] = refl
filter-placed k t (x ∷ xs) = go (nat_le t.moment x.moment) refl (filter-placed k t xs)
  where
    go : (b : Bool) → nat_le t.moment x.moment ≡ b → filter (at k) (with_timed t xs) ≡ filter (at k) (t ∷ xs) → filter (at k) (cond b (t ∷ x ∷ xs) (x ∷ with_timed t xs)) ≡ filter (at k) (t ∷ x ∷ xs)
    go true h more = refl
    go false h more = ap (λ ts. cond (at k x) (x ∷ ts) ts) more ∙ turned (at k x) (at k t) (λ a b. grind (arith, nat_tests))
      where
        turned : (a b : Bool) → (a ≡ true → b ≡ true → ⊥) → cond a (x ∷ cond b (t ∷ filter (at k) xs) (filter (at k) xs)) (cond b (t ∷ filter (at k) xs) (filter (at k) xs)) ≡ cond b (t ∷ cond a (x ∷ filter (at k) xs) (filter (at k) xs)) (cond a (x ∷ filter (at k) xs) (filter (at k) xs))
        turned true true n = absurd (n refl refl)
        turned true false n = refl
        turned false true n = refl
        turned false false n = refl

filter-sorted : (k : ℕ) (ts : List Timed) → filter (at k) (stable_sort ts) ≡ filter (at k) ts
filter-sorted k [] = refl
filter-sorted k (t ∷ ts) = filter-placed k t (stable_sort ts) ∙ ap (λ xs. cond (at k t) (t ∷ xs) xs) (filter-sorted k ts)

placed-not_before : (m : ℕ) (t : Timed) (xs : List Timed) → m ≤ t.moment → list_all (λ y. nat_le m y.moment) xs ≡ true → list_all (λ y. nat_le m y.moment) (with_timed t xs) ≡ true
placed-not_before m t [] l h = grind (arith, nat_tests)
placed-not_before m t (x ∷ xs) l h = go (nat_le t.moment x.moment) (placed-not_before m t xs l)
  where
    go : (b : Bool) → (list_all (λ y. nat_le m y.moment) xs ≡ true → list_all (λ y. nat_le m y.moment) (with_timed t xs) ≡ true) → list_all (λ y. nat_le m y.moment) (cond b (t ∷ x ∷ xs) (x ∷ with_timed t xs)) ≡ true
    go true more = grind (arith, nat_tests)
    go false more = grind (arith, nat_tests)

all_later : (m n : ℕ) → m ≤ n → (xs : List Timed) → list_all (λ y. nat_le n y.moment) xs ≡ true → list_all (λ y. nat_le m y.moment) xs ≡ true
all_later m n l [] h = refl
all_later m n l (x ∷ xs) h = grind (arith, nat_tests, all_later m n l xs)

placed-by_moment : (t : Timed) (xs : List Timed) → IsByMoment xs → IsByMoment (with_timed t xs)
placed-by_moment t [] h = (refl, tt)
placed-by_moment t (x ∷ xs) h = go (nat_le t.moment x.moment) refl (placed-by_moment t xs h.1)
  where
    go : (b : Bool) → nat_le t.moment x.moment ≡ b → IsByMoment (with_timed t xs) → IsByMoment (cond b (t ∷ x ∷ xs) (x ∷ with_timed t xs))
    go true e more = let l : t.moment ≤ x.moment = grind (arith, nat_tests) in (grind (arith, nat_tests, all_later t.moment x.moment l xs h.0), h)
    go false e more = let l : x.moment ≤ t.moment = grind (arith, nat_tests) in (placed-not_before x.moment t xs l h.0, more)

sorted-by_moment : (ts : List Timed) → IsByMoment (stable_sort ts)
sorted-by_moment [] = tt
sorted-by_moment (t ∷ ts) = placed-by_moment t (stable_sort ts) (sorted-by_moment ts)

-- ---- one moment after another

none_by : (m n : ℕ) → m < n → (xs : List Timed) → list_all (λ y. nat_le n y.moment) xs ≡ true → filter (by m) xs ≡ []
none_by m n l [] h = refl
none_by m n l (x ∷ xs) h = grind (arith, nat_tests, none_by m n l xs)

by_next : (m : ℕ) (ts : List Timed) → IsByMoment ts → filter (by m) ts ++ filter (at (suc m)) ts ≡ filter (by (suc m)) ts
by_next m [] h = refl
by_next m (x ∷ xs) h =
    one (by m x) (at (suc m) x) (by (suc m) x) (filter (by m) xs) (filter (at (suc m)) xs) (filter (by (suc m)) xs) (by_next m xs h.1)
    (λ a. grind (arith, nat_tests)) (λ a. grind (arith, nat_tests)) (λ a. none_by m x.moment (grind (arith, nat_tests)) xs h.0) (λ a. grind (arith, nat_tests))
  where
    one : (a b c : Bool) (xs ys zs : List Timed) → xs ++ ys ≡ zs → (a ≡ true → b ≡ false) → (a ≡ true → c ≡ true) → (a ≡ false → xs ≡ []) → (a ≡ false → c ≡ b) → cond a (x ∷ xs) xs ++ cond b (x ∷ ys) ys ≡ cond c (x ∷ zs) zs
    one true b c xs ys zs e f g n k = ap (λ d. (x ∷ xs) ++ cond d (x ∷ ys) ys) (f refl) ∙ ap (λ ws. x ∷ ws) e ∙ sym (ap (λ d. cond d (x ∷ zs) zs) (g refl))
    one false b c xs ys zs e f g n k =
        let same : ys ≡ zs = ap (λ ws. ws ++ ys) (sym (n refl)) ∙ e in
        ap (λ ws. ws ++ cond b (x ∷ ys) ys) (n refl) ∙ ap (λ ws. cond b (x ∷ ws) ws) same ∙ sym (ap (λ d. cond d (x ∷ zs) zs) (k refl))

by_zero : (ts : List Timed) → filter (at zero) ts ≡ filter (by zero) ts
by_zero [] = refl
by_zero (x ∷ xs) = grind (arith, nat_tests, by_zero xs)

upto-by : (m : ℕ) (ts : List Timed) → IsByMoment ts → upto (λ k. filter (at k) ts) m ≡ filter (by m) ts
unfolding upto
upto-by zero ts h = by_zero ts
upto-by (suc m) ts h = ap (λ xs. xs ++ filter (at (suc m)) ts) (upto-by m ts h) ∙ by_next m ts h

pub sort_law : SortLaw
sort_law s m =
    let ts : List Timed = all_timed s.clients s.pending in
    upto-agree (all_at s.clients s.pending) (λ k. filter (at k) (stable_sort ts)) (λ k. all_at-timed s.clients s.pending k ∙ sym (filter-sorted k ts)) m
    ∙ upto-by m (stable_sort ts) (sorted-by_moment ts)
