-- The soonest moment of all keys is that of what is due next.
use Rattle.std.proofs.Common.{◌≡◌, ℕ, ◌≤◌, ◌<◌, Bool, true, cond, ◌⊎◌, inl, inr, List, [], ◌∷◌, ◌++◌, map, length, Option, Some, None, refl, sym, ap, subst, ◌∙◌, arith, eq-eqb}
use Rattle.std.specs.List.{filter, flat_map}
use Rattle.std.specs.Ordering.{nat_cmp}
use Rattle.std.specs.FinMap
use Rattle.std.specs.FinMap.{FinMap}
use Rattle.std.proofs.lemmas.Bool.{cases_lt}
use Rattle.tempo_clock.specs.Laws.{NoLater}
use Rattle.patch_graph.specs.declared.edge.Edge.{Edge}
use Rattle.seq_state.specs.State.{Client, ClientPool, DueMessage, OwnedPlayback, State}
use Rattle.seq_state.specs.Step.{Timed, is_at, event_moment, playback_at, all_at}
use Rattle.seq_state.proofs.Pop.{all_late}
use Rattle.agenda_heap.specs.declared.due_key.DueKey.{DueKey}
use Rattle.seq_settle.specs.Cells.{PlaybackCell, AreCells, at_rank, by_rank, pending_in, first_moment, key_of, playbacks, seen_state}
use Rattle.seq_settle.specs.Next.{next_moment}
use Rattle.seq_settle.specs.Soonest.{IsDueAt, IsSoonest}
use Rattle.seq_settle.proofs.Clocks.{event_moment-is}
use Rattle.seq_settle.proofs.Covered.{all_keys, all-keys}
use Rattle.seq_settle.proofs.Least.{none_before, none_ever, some_at}
use Rattle.seq_settle.proofs.Ranks.{ranked_from}
use Rattle.seq_settle.proofs.Stores.{playbacks-here}
use Rattle.seq_settle.proofs.Turn.{key_of-some, late_all}

-- ---- what a cell has to send

pub left-nothing : {X : Type 0} (xs ys : List X) → xs ++ ys ≡ [] → xs ≡ []
left-nothing [] ys e = refl
left-nothing (x ∷ xs) ys e = cc

pub right-nothing : {X : Type 0} (xs ys : List X) → xs ++ ys ≡ [] → ys ≡ []
right-nothing [] ys e = e
right-nothing (x ∷ xs) ys e = cc

flat-nothing : {X Y : Type 0} (f : X → List Y) (xs : List X) (x : X) (ys : List X) → flat_map f (xs ++ x ∷ ys) ≡ [] → f x ≡ []
flat-nothing f [] x ys e = left-nothing (f x) (flat_map f ys) e
flat-nothing f (z ∷ xs) x ys e = flat-nothing f xs x ys (right-nothing (f z) (flat_map f (xs ++ x ∷ ys)) e)

-- the first event of a playback stands among those of its moment
at-moment : (clients : FinMap nat_cmp Client) (p : OwnedPlayback) (es : List DueMessage) (k : ℕ) → first_moment clients p es ≡ Some k → p.playback.events ≡ es → playback_at clients k p ≡ [] → ⊥
at-moment clients p [] k e s none = cc
at-moment clients p (x ∷ xs) k e s none =
    let at : event_moment clients p x ≡ Some k = event_moment-is clients p x ∙ e in
    let timed : DueMessage → Timed = λ y. record { moment = k; client = p.client; port = p.playback.port; message = y.message } in
    let yes : is_at k (event_moment clients p x) ≡ true = ap (is_at k) at ∙ eq-eqb k k refl in
    let keep : DueMessage → Bool = λ y. is_at k (event_moment clients p y) in
    never (timed x) (map timed (filter keep xs)) (sym (ap (λ b. map timed (cond b (x ∷ filter keep xs) (filter keep xs))) yes) ∙ ap (λ ys. map timed (filter keep ys)) (sym s) ∙ none)
  where
    never : (t : Timed) (ts : List Timed) → t ∷ ts ≡ [] → ⊥
    never t ts e = cc

module _ (clients : FinMap nat_cmp Client) (cells : FinMap nat_cmp PlaybackCell) (n : ℕ) (are : AreCells cells n) where
  -- at the moment of a cell's key there is something to send
  pub keyed-sends : (q : ℕ) (key : DueKey) → key_of clients (FinMap.get cells q) ≡ Some key → all_at clients (playbacks cells n) key.moment ≡ [] → ⊥
  keyed-sends q key e none =
      let found = key_of-some clients (FinMap.get cells q) key e in
      let c : PlaybackCell = found.0 in
      let f : OwnedPlayback → List Timed = playback_at clients key.moment in
      at-moment clients (pending_in c) c.1.events key.moment found.2 refl
      (flat-nothing f (by_rank (at_rank cells) c.1.rank) (pending_in c) (ranked_from (at_rank cells) c.1.rank n) (sym (ap (flat_map f) (playbacks-here cells n q c are found.1)) ∙ none))

  -- where all keys come after a moment there is nothing to send at it
  pub unkeyed-sends : (m : ℕ) → ((q : ℕ) (key : DueKey) → key_of clients (FinMap.get cells q) ≡ Some key → m < key.moment) → all_at clients (playbacks cells n) m ≡ []
  unkeyed-sends m after = all_late clients m m (omega arith) (playbacks cells n)
      (late_all clients cells (all_keys clients cells) n are (all-keys clients cells) m n (λ q c key here l e. after q key (sym ((all-keys clients cells).keyed q) ∙ e)))

  -- ---- what is due next

  module _ (pools : FinMap nat_cmp ClientPool) (edges : List Edge) where
    abbrev s : State
    s = seen_state clients pools edges cells n

    pub soonest-next : (r : Option ℕ) → IsSoonest (IsDueAt clients cells) r → r ≡ next_moment s
    soonest-next r is = go r (next_moment s) refl refl
      where
        due-at : (q : ℕ) (key : DueKey) → key_of clients (FinMap.get cells q) ≡ Some key → IsDueAt clients cells key.moment
        due-at q key e = record { cell = q; key = key; keyed = e; at = refl }

        sends : (m : ℕ) → r ≡ Some m → all_at clients (playbacks cells n) m ≡ [] → ⊥
        sends m e none = let d : IsDueAt clients cells m = is.there m e in keyed-sends d.cell d.key d.keyed (ap (all_at clients (playbacks cells n)) d.at ∙ none)

        not-nothing : (k : ℕ) → next_moment s ≡ Some k → all_at clients (playbacks cells n) k ≡ [] → ⊥
        not-nothing k e none = let l : 0 < length (all_at clients (playbacks cells n) k) = some_at s k e in omega (arith, ap length none)

        same : (m k : ℕ) → r ≡ Some m → next_moment s ≡ Some k → (m < k) ⊎ (k ≤ m) → (k < m) ⊎ (m ≤ k) → m ≡ k
        same m k e f (inl l) b = absurd (sends m e (none_before s k f m l))
        same m k e f (inr l) (inl less) =
            absurd (not-nothing k f (unkeyed-sends k (λ q key g. let le : m ≤ key.moment = subst (λ o. NoLater o (Some key.moment)) e (is.first key.moment (due-at q key g)) in omega arith)))
        same m k e f (inr l) (inr b) = omega arith

        go : (a b : Option ℕ) → r ≡ a → next_moment s ≡ b → r ≡ next_moment s
        go None None e f = e ∙ sym f
        go (Some m) None e f = absurd (sends m e (none_ever s f m))
        go None (Some k) e f = absurd (not-nothing k f (unkeyed-sends k (λ q key g. absurd (subst (λ o. NoLater o (Some key.moment)) e (is.first key.moment (due-at q key g))))))
        go (Some m) (Some k) e f = e ∙ ap (λ x. Some x) (same m k e f (cases_lt m k) (cases_lt k m)) ∙ sym f
