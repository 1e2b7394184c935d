-- What is due next.
use Rattle.std.proofs.Common.{◌≡◌, ℕ, zero, suc, ◌≤◌, ◌<◌, Bool, true, false, not, cond, eqb, List, [], ◌∷◌, ◌++◌, map, length, Option, Some, None, refl, sym, ap, ◌∙◌, arith}
use Rattle.std.specs.Prelude.{nat_le}
use Rattle.std.specs.List.{filter, flat_map, list_all}
use Rattle.std.specs.Ordering.{nat_cmp}
use Rattle.std.specs.FinMap.{FinMap}
use Rattle.std.proofs.lemmas.Bool.Decides.{nat_tests}
use Rattle.std.proofs.lemmas.Bool.{false≢true}
use Rattle.seq_state.specs.State.{Client, DueMessage, OwnedPlayback, State}
use Rattle.seq_state.specs.Step.{Timed, event_moment, is_at, is_by, playback_at, playback_after, all_at, upto, due, settle, Settled, without_due, with_copies, event_copies, is_left}
use Rattle.seq_state.specs.Laws.{AreFilled}
use Rattle.seq_state.proofs.Lists.{both_left, both_right, filter-apart}
use Rattle.seq_state.proofs.Settling.{upto-none}
use Rattle.seq_settle.specs.Next.{next_moment}
use Rattle.seq_settle.proofs.Least.{timed, none_before, none_ever, some_at}
use Rattle.seq_settle.proofs.NextMoment.{left-nothing, right-nothing}
use Rattle.seq_engine.specs.NextLaws.{NextLaw}
use Rattle.seq_engine.proofs.Idle.{upto-nothing}

-- ---- the laws

never : (s : State) (m : ℕ) → next_moment s ≡ None → due s m ≡ []
never s m h = upto-none (all_at s.clients s.pending) m (λ j l. none_ever s h j)

before : (s : State) (m k : ℕ) → next_moment s ≡ Some k → m < k → due s m ≡ []
before s m k h l = upto-none (all_at s.clients s.pending) m (λ j l'. none_before s k h j (omega arith))

upto-last : {X : Type 0} (f : ℕ → List X) (k : ℕ) → ((j : ℕ) → j < k → f j ≡ []) → upto f k ≡ f k
unfolding upto
upto-last f zero h = refl
upto-last f (suc k) h = ap (λ xs. xs ++ f (suc k)) (upto-none f k (λ j l. h j (omega arith)))

first : (s : State) (k : ℕ) → next_moment s ≡ Some k → due s k ≡ all_at s.clients s.pending k
first s k h = upto-last (all_at s.clients s.pending) k (none_before s k h)

some_due : (s : State) (k : ℕ) → next_moment s ≡ Some k → 0 < length (due s k)
some_due s k h = rw (first s k h) (some_at s k h)

-- ---- after settling

at_not_by : (k m : ℕ) (o : Option ℕ) → k ≤ m → is_at k o ≡ true → not (is_by m o) ≡ true → ⊥
at_not_by k m None l a b = false≢true a
at_not_by k m (Some j) l a b = grind (arith, nat_tests)

module _ (clients : FinMap nat_cmp Client) where
  abbrev past : ℕ → OwnedPlayback → DueMessage → Bool
  past m p e = not (is_by m (event_moment clients p e))

  none_after : (k m : ℕ) → k ≤ m → (ps : List OwnedPlayback) → all_at clients (filter is_left (map (playback_after clients m) ps)) k ≡ []
  none_after k m l [] = refl
  none_after k m l (p ∷ ps) = go (is_left (playback_after clients m p)) (none_after k m l ps)
    where
      rest : List OwnedPlayback
      rest = filter is_left (map (playback_after clients m) ps)

      gone : playback_at clients k (playback_after clients m p) ≡ []
      gone = ap (map (timed k p)) (filter-apart (λ e. is_at k (event_moment clients p e)) (past m p) (λ e a b. at_not_by k m (event_moment clients p e) l a b) p.playback.events)

      go : (b : Bool) → all_at clients rest k ≡ [] → all_at clients (cond b (playback_after clients m p ∷ rest) rest) k ≡ []
      go true more = ap (λ xs. xs ++ all_at clients rest k) gone ∙ more
      go false more = more

later : (s : State) (m k : ℕ) → next_moment (settle s m).state ≡ Some k → m < k
later s m k h = go (nat_le k m) refl
  where
    empty : k ≤ m → 0 < length (all_at (settle s m).state.clients (settle s m).state.pending k) → ⊥
    empty l h = let e : all_at s.clients (settle s m).state.pending k ≡ [] = none_after s.clients k m l s.pending in omega (arith, ap length e)

    go : (b : Bool) → nat_le k m ≡ b → m < k
    go true e = absurd (empty (one e) (some_at (settle s m).state k h))
      where
        one : nat_le k m ≡ true → k ≤ m
        one e = grind (arith, nat_tests)
    go false e = grind (arith, nat_tests)

-- ---- where nothing is due

module _ (clients : FinMap nat_cmp Client) (m : ℕ) where
  -- an event that is at no moment up to m is past it
  not_at : (o : Option ℕ) → ((j : ℕ) → j ≤ m → is_at j o ≡ false) → not (is_by m o) ≡ true
  not_at None h = refl
  not_at (Some k) h = go (nat_le k m) refl
    where
      go : (b : Bool) → nat_le k m ≡ b → not (nat_le k m) ≡ true
      go true e = absurd (false≢true (sym (h k (one e)) ∙ same))
        where
          one : nat_le k m ≡ true → k ≤ m
          one e = grind (arith, nat_tests)

          same : eqb k k ≡ true
          same = grind (arith, nat_tests)
      go false e = ap not e

  abbrev NoneOf : OwnedPlayback → List DueMessage → Type 0
  NoneOf p es = (j : ℕ) → j ≤ m → map (timed j p) (filter (λ e. is_at j (event_moment clients p e)) es) ≡ []

  kept_events : (p : OwnedPlayback) (es : List DueMessage) → NoneOf p es → filter (past clients m p) es ≡ es
  kept_events p [] h = refl
  kept_events p (e ∷ es) h =
      ap (λ b. cond b (e ∷ filter (past clients m p) es) (filter (past clients m p) es)) (not_at (event_moment clients p e) (λ j l. (split j l).0))
      ∙ ap (λ xs. e ∷ xs) (kept_events p es (λ j l. (split j l).1))
    where
      go : (j : ℕ) (b : Bool) → map (timed j p) (cond b (e ∷ filter (λ e. is_at j (event_moment clients p e)) es) (filter (λ e. is_at j (event_moment clients p e)) es)) ≡ [] →
          (b ≡ false) × (map (timed j p) (filter (λ e. is_at j (event_moment clients p e)) es) ≡ [])
      go j true h = cc
      go j false h = (refl, h)

      split : (j : ℕ) → j ≤ m → (is_at j (event_moment clients p e) ≡ false) × (map (timed j p) (filter (λ e. is_at j (event_moment clients p e)) es) ≡ [])
      split j l = go j (is_at j (event_moment clients p e)) (h j l)

  kept_all : (ps : List OwnedPlayback) → list_all is_left ps ≡ true → ((j : ℕ) → j ≤ m → all_at clients ps j ≡ []) → filter is_left (map (playback_after clients m) ps) ≡ ps
  kept_all [] f h = refl
  kept_all (p ∷ ps) f h =
      ap (λ q. cond (is_left q) (q ∷ rest) rest) same
      ∙ ap (λ b. cond b (p ∷ rest) rest) (both_left (is_left p) (list_all is_left ps) f)
      ∙ ap (λ qs. p ∷ qs) (kept_all ps (both_right (is_left p) (list_all is_left ps) f) (λ j l. right-nothing (playback_at clients j p) (all_at clients ps j) (h j l)))
    where
      rest : List OwnedPlayback
      rest = filter is_left (map (playback_after clients m) ps)

      same : playback_after clients m p ≡ p
      same =
          ap (λ es. record { client = p.client; queue = p.queue; playback = record { port = p.playback.port; accepted = p.playback.accepted; events = es } })
          (kept_events p p.playback.events (λ j l. left-nothing (playback_at clients j p) (all_at clients ps j) (h j l)))

idle : (s : State) (m : ℕ) → AreFilled s → due s m ≡ [] → ((settle s m).state ≡ s) × ((settle s m).delivered ≡ [])
idle s m f h = (
  ap (λ ts. (settled_with ts).state) h ∙ ap (λ ps. record { clients = s.clients; pools = s.pools; edges = s.edges; pending = ps }) (kept_all s.clients m s.pending f (λ j l. upto-nothing (all_at s.clients s.pending) m j l h)),
  ap (λ ts. (settled_with ts).delivered) h,
)
  where
    settled_with : List Timed → Settled
    settled_with ts = with_copies (without_due s m) (flat_map (event_copies s) ts)

pub next_law : NextLaw
next_law = record {
  never = never;
  before = before;
  idle = idle;
  there = λ s k h. (first s k h, some_due s k h);
  later = later;
}
