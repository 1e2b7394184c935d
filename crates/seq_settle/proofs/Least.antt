-- The least moment of what is pending.
use Rattle.std.proofs.Common.{◌≡◌, ℕ, ◌≤◌, ◌<◌, Bool, true, false, cond, eqb, List, [], ◌∷◌, map, length, Option, Some, None, refl, sym, ap, ◌∙◌, arith}
use Rattle.std.specs.Prelude.{nat_le, min}
use Rattle.std.specs.List.{filter, filter_map, cons_option, list_all}
use Rattle.std.specs.Ordering.{nat_cmp}
use Rattle.std.specs.FinMap.{FinMap}
use Rattle.std.proofs.lemmas.Bool.Decides.{nat_tests}
use Rattle.std.proofs.lemmas.Bool.{eqb-true}
use Rattle.seq_state.specs.State.{Client, DueMessage, OwnedPlayback, State}
use Rattle.seq_state.specs.Step.{Timed, event_moment, is_at, playback_at, all_at}
use Rattle.seq_state.specs.Laws.{timed_at, timed_of, all_timed}
use Rattle.seq_state.proofs.Lists.{filter-flat_map, flat_map-agree, both_left, both_right, and_both}
use Rattle.seq_settle.specs.Next.{earlier, least_moment, next_moment}

abbrev at : ℕ → Timed → Bool
at k t = eqb t.moment k

abbrev pub timed : ℕ → OwnedPlayback → DueMessage → Timed
timed k p e = record { moment = k; client = p.client; port = p.playback.port; message = e.message }

-- ---- the events of one moment, among all

timed_at-here : (clients : FinMap nat_cmp Client) (k : ℕ) (p : OwnedPlayback) (es : List DueMessage) →
    map (timed k p) (filter (λ e. is_at k (event_moment clients p e)) es) ≡ filter (at k) (filter_map (λ e. timed_at p e (event_moment clients p e)) es)
timed_at-here clients k p [] = refl
timed_at-here clients k p (e ∷ es) = go (event_moment clients p e) (timed_at-here clients k p es)
  where
    here : ℕ → Timed
    here j = timed j p e

    tail : List DueMessage
    tail = filter (λ e. is_at k (event_moment clients p e)) es

    all : List Timed
    all = filter_map (λ e. timed_at p e (event_moment clients p e)) es

    one : (j : ℕ) (b : Bool) → eqb j k ≡ b → map (timed k p) tail ≡ filter (at k) all → map (timed k p) (cond b (e ∷ tail) tail) ≡ cond b (here j ∷ filter (at k) all) (filter (at k) all)
    one j true h more = ap (λ n. here n ∷ map (timed k p) tail) (sym (eqb-true j k h)) ∙ ap (λ ts. here j ∷ ts) more
    one j false h more = more

    go : (o : Option ℕ) → map (timed k p) tail ≡ filter (at k) all → map (timed k p) (cond (is_at k o) (e ∷ tail) tail) ≡ filter (at k) (cons_option (timed_at p e o) all)
    go None more = more
    go (Some j) more = one j (eqb j k) refl more

all_at-timed : (s : State) (k : ℕ) → all_at s.clients s.pending k ≡ filter (at k) (all_timed s.clients s.pending)
all_at-timed s k =
    flat_map-agree (playback_at s.clients k) (λ p. filter (at k) (timed_of s.clients p)) (λ p. timed_at-here s.clients k p p.playback.events) s.pending
    ∙ sym (filter-flat_map (at k) (timed_of s.clients) s.pending)

-- ---- the least moment

abbrev from : ℕ → Timed → Bool
from m t = nat_le m t.moment

least_none : (ts : List Timed) → least_moment ts ≡ None → ts ≡ []
least_none [] h = refl
least_none (t ∷ ts) h = cc

from_less : (m n : ℕ) → m ≤ n → (ts : List Timed) → list_all (from n) ts ≡ true → list_all (from m) ts ≡ true
from_less m n l [] h = refl
from_less m n l (t ∷ ts) h = and_both (from m t) (list_all (from m) ts) (one (both_left (from n t) (list_all (from n) ts) h)) (from_less m n l ts (both_right (from n t) (list_all (from n) ts) h))
  where
    one : nat_le n t.moment ≡ true → nat_le m t.moment ≡ true
    one h = grind (arith, nat_tests)

some_same : (a b : ℕ) → (let x : Option ℕ = Some a in x ≡ Some b) → a ≡ b
some_same a b e = cc

least_all : (ts : List Timed) (k : ℕ) → least_moment ts ≡ Some k → list_all (from k) ts ≡ true
least_all [] k h = refl
least_all (t ∷ ts) k h = go (λ j e. least_all ts j e) (least_moment ts) refl (some_same (earlier t.moment (least_moment ts)) k h)
  where
    go : ((j : ℕ) → least_moment ts ≡ Some j → list_all (from j) ts ≡ true) → (o : Option ℕ) → least_moment ts ≡ o → earlier t.moment o ≡ k → list_all (from k) (t ∷ ts) ≡ true
    go more None e f = and_both (from k t) (list_all (from k) ts) (one f) (ap (list_all (from k)) (least_none ts e))
      where
        one : t.moment ≡ k → nat_le k t.moment ≡ true
        one f = grind (arith, nat_tests)
    go more (Some j) e f = and_both (from k t) (list_all (from k) ts) (one f) (from_less k j (two f) ts (more j e))
      where
        one : min t.moment j ≡ k → nat_le k t.moment ≡ true
        one f = grind (arith, nat_tests)

        two : min t.moment j ≡ k → k ≤ j
        two f = omega arith

least_there : (ts : List Timed) (k : ℕ) → least_moment ts ≡ Some k → 0 < length (filter (at k) ts)
least_there [] k h = cc
least_there (t ∷ ts) k h = go (λ e. least_there ts k e) (least_moment ts) refl (some_same (earlier t.moment (least_moment ts)) k h)
  where
    kept : (b : Bool) (xs : List Timed) → 0 < length xs → 0 < length (cond b (t ∷ xs) xs)
    kept true xs l = omega arith
    kept false xs l = l

    mine : t.moment ≡ k → 0 < length (filter (at k) (t ∷ ts))
    mine e = grind (arith, nat_tests)

    go : (least_moment ts ≡ Some k → 0 < length (filter (at k) ts)) → (o : Option ℕ) → least_moment ts ≡ o → earlier t.moment o ≡ k → 0 < length (filter (at k) (t ∷ ts))
    go more None e f = mine f
    go more (Some j) e f = pick (nat_le t.moment j) refl
      where
        pick : (b : Bool) → nat_le t.moment j ≡ b → 0 < length (filter (at k) (t ∷ ts))
        pick true p = mine (one p f)
          where
            one : nat_le t.moment j ≡ true → min t.moment j ≡ k → t.moment ≡ k
            one p f = grind (arith, nat_tests)
        pick false p = kept (at k t) (filter (at k) ts) (more (e ∙ ap Some (one p f)))
          where
            one : nat_le t.moment j ≡ false → min t.moment j ≡ k → j ≡ k
            one p f = grind (arith, nat_tests)

none_at : (j k : ℕ) → j < k → (ts : List Timed) → list_all (from k) ts ≡ true → filter (at j) ts ≡ []
none_at j k l [] h = refl
none_at j k l (t ∷ ts) h =
    ap (λ b. cond b (t ∷ filter (at j) ts) (filter (at j) ts)) (one (both_left (from k t) (list_all (from k) ts) h))
    ∙ none_at j k l ts (both_right (from k t) (list_all (from k) ts) h)
  where
    one : nat_le k t.moment ≡ true → eqb t.moment j ≡ false
    one h = grind (arith, nat_tests)

-- before the least moment of all there is nothing
pub none_before : (s : State) (k : ℕ) → next_moment s ≡ Some k → (j : ℕ) → j < k → all_at s.clients s.pending j ≡ []
none_before s k h j l = all_at-timed s j ∙ none_at j k l (all_timed s.clients s.pending) (least_all (all_timed s.clients s.pending) k h)

-- where there is none there is nothing at all
pub none_ever : (s : State) → next_moment s ≡ None → (j : ℕ) → all_at s.clients s.pending j ≡ []
none_ever s h j = all_at-timed s j ∙ ap (filter (at j)) (least_none (all_timed s.clients s.pending) h)

-- and at that moment there is something
pub some_at : (s : State) (k : ℕ) → next_moment s ≡ Some k → 0 < length (all_at s.clients s.pending k)
some_at s k h = rw (all_at-timed s k) (least_there (all_timed s.clients s.pending) k h)
