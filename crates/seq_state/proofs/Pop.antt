-- Settling event by event: what an agenda that gives the least event has to meet.
use Rattle.std.proofs.Common.{◌≡◌, ℕ, zero, suc, ◌≤◌, ◌<◌, Bool, true, false, not, cond, ◌⊎◌, inl, inr, List, [], ◌∷◌, ◌++◌, map, Option, Some, None, refl, sym, ap, subst, ◌∙◌, arith}
use Rattle.std.specs.Prelude.{nat_le}
use Rattle.std.specs.List.{filter, flat_map, list_all}
use Rattle.std.proofs.lemmas.Bool.Decides.{nat_tests}
use Rattle.std.specs.Ordering.{nat_cmp}
use Rattle.std.specs.FinMap.{FinMap}
use Rattle.std.proofs.lemmas.Bool.{false≢true, eq-eqb, ne_eqb, le-leb, cases_lt}
use Rattle.seq_state.specs.declared.log.Delivery.{Delivery}
use Rattle.seq_state.specs.State.{OwnedPlayback, DueMessage, State, Client, ClientPool}
use Rattle.seq_state.specs.Step.{copies_with_room, upto, is_by, event_moment, is_at, playback_at, Timed, all_at, is_left, playback_after, settle, Settled, with_copies, event_copies, pools_after}
use Rattle.seq_state.proofs.Lists.{and_both, filter-never, flat_map-none_under, list_all-weaker, filter-append, flat_map-append}
use Rattle.seq_state.proofs.Settling.{upto-none, offered-append, delivered-append}

map-append : {X Y : Type 0} (f : X → Y) (xs ys : List X) → map f (xs ++ ys) ≡ map f xs ++ map f ys
map-append f [] ys = refl
map-append f (x ∷ xs) ys = ap (λ zs. f x ∷ zs) (map-append f xs ys)

-- x is the first of all
upto-pop : {X : Type 0} (f g : ℕ → List X) (x : X) (k m : ℕ) → ((j : ℕ) → j < k → f j ≡ []) → f k ≡ x ∷ g k → ((j : ℕ) → (j ≡ k → ⊥) → f j ≡ g j) → k ≤ m → upto f m ≡ x ∷ upto g m
unfolding upto
upto-pop f g x k zero none here same l = let z : k ≡ zero = omega arith in subst (λ j. f j ≡ x ∷ g j) z here
upto-pop f g x k (suc m) none here same l = go (cases_lt m k) (upto-pop f g x k m none here same)
  where
    go : (m < k) ⊎ (k ≤ m) → (k ≤ m → upto f m ≡ x ∷ upto g m) → upto f m ++ f (suc m) ≡ x ∷ (upto g m ++ g (suc m))
    go (inl lt) more =
        let z : k ≡ suc m = omega arith in
        let no_f : upto f m ≡ [] = upto-none f m (λ j h. none j (omega arith)) in
        let no_g : upto g m ≡ [] = upto-none g m (λ j h. sym (same j (λ e. omega arith)) ∙ none j (omega arith)) in
        ap (λ xs. xs ++ f (suc m)) no_f ∙ subst (λ j. f j ≡ x ∷ g j) z here ∙ ap (λ xs. x ∷ (xs ++ g (suc m))) (sym no_g)
    go (inr le) more = ap (λ xs. xs ++ f (suc m)) (more le) ∙ ap (λ xs. x ∷ (upto g m ++ xs)) (same (suc m) (λ e. omega arith))

-- a playback with these events
abbrev pub with_events : OwnedPlayback → List DueMessage → OwnedPlayback
with_events p es = record { client = p.client; queue = p.queue; playback = record { port = p.playback.port; accepted = p.playback.accepted; events = es } }

abbrev pub with_pending : State → List OwnedPlayback → State
with_pending s ps = record { clients = s.clients; pools = s.pools; edges = s.edges; pending = ps }

-- ---- from the least key of an agenda that holds each playback's first event

module _ (clients : FinMap nat_cmp Client) where
  -- no event of the playback has a moment up to k
  abbrev pub is_late : ℕ → OwnedPlayback → Bool
  is_late k p = list_all (λ e. not (is_by k (event_moment clients p e))) p.playback.events

  -- a moment that is not before another, where none is after all
  abbrev pub not_before : Option ℕ → Option ℕ → Bool
  not_before None None = true
  not_before None (Some n) = false
  not_before (Some m) None = true
  not_before (Some m) (Some n) = nat_le m n

  abbrev pub is_rising_from : OwnedPlayback → List DueMessage → Bool
  is_rising_from p [] = true
  is_rising_from p (e ∷ es) = list_all (λ x. not_before (event_moment clients p e) (event_moment clients p x)) es

  -- the moments of a playback's events are not before that of its first, as along a file
  abbrev pub is_rising : OwnedPlayback → Bool
  is_rising p = is_rising_from p p.playback.events

  at_not_late : (j k : ℕ) (o : Option ℕ) → j ≤ k → is_at j o ≡ true → not (is_by k o) ≡ true → ⊥
  at_not_late j k None l a b = false≢true a
  at_not_late j k (Some n) l a b = grind (arith, nat_tests)

  none_late : (j k : ℕ) → j ≤ k → (p : OwnedPlayback) → is_late k p ≡ true → playback_at clients j p ≡ []
  none_late j k l p h =
      ap (map (λ (e : DueMessage). let t : Timed = record { moment = j; client = p.client; port = p.playback.port; message = e.message } in t))
      (filter-never (λ e. is_at j (event_moment clients p e)) (λ e. not (is_by k (event_moment clients p e))) (λ e a b. at_not_late j k (event_moment clients p e) l a b) p.playback.events h)

  pub all_late : (j k : ℕ) → j ≤ k → (ps : List OwnedPlayback) → list_all (is_late k) ps ≡ true → all_at clients ps j ≡ []
  all_late j k l ps h = flat_map-none_under (is_late k) (playback_at clients j) (λ p a. none_late j k l p a) ps h

  later_too : (j : ℕ) (a b : Option ℕ) → not_before a b ≡ true → not (is_by j a) ≡ true → not (is_by j b) ≡ true
  later_too j a None n h = refl
  later_too j None (Some m) n h = absurd (false≢true n)
  later_too j (Some k) (Some m) n h = grind (arith, nat_tests)

  -- a playback whose first event is late is late
  pub late_first : (j : ℕ) (p : OwnedPlayback) (e : DueMessage) (es : List DueMessage) → p.playback.events ≡ e ∷ es → is_rising p ≡ true → not (is_by j (event_moment clients p e)) ≡ true → is_late j p ≡ true
  late_first j p e es eq r h =
      subst (λ xs. list_all (λ x. not (is_by j (event_moment clients p x))) xs ≡ true) (sym eq)
      (and_both (not (is_by j (event_moment clients p e))) (list_all (λ x. not (is_by j (event_moment clients p x))) es) h
      (list_all-weaker (λ x. not_before (event_moment clients p e) (event_moment clients p x)) (λ x. not (is_by j (event_moment clients p x)))
      (λ x n. later_too j (event_moment clients p e) (event_moment clients p x) n h) es (subst (λ xs. is_rising_from p xs ≡ true) eq r)))

module _ (s : State) (before after : List OwnedPlayback) (p : OwnedPlayback) (e : DueMessage) (es : List DueMessage) (k : ℕ) (here : event_moment s.clients p e ≡ Some k) where
  abbrev at_e : ℕ → Bool
  at_e j = is_at j (event_moment s.clients p e)

  abbrev timed : ℕ → DueMessage → Timed
  timed j x = record { moment = j; client = p.client; port = p.playback.port; message = x.message }

  playback_at-first : (j : ℕ) → playback_at s.clients j (with_events p (e ∷ es)) ≡ cond (at_e j) (timed j e ∷ playback_at s.clients j (with_events p es)) (playback_at s.clients j (with_events p es))
  playback_at-first j = go (at_e j)
    where
      rest : List DueMessage
      rest = filter (λ x. is_at j (event_moment s.clients p x)) es

      go : (b : Bool) → map (timed j) (cond b (e ∷ rest) rest) ≡ cond b (timed j e ∷ map (timed j) rest) (map (timed j) rest)
      go true = refl
      go false = refl

  unfoldable pub all : List OwnedPlayback
  all = before ++ with_events p (e ∷ es) ∷ after

  unfoldable pub others : List OwnedPlayback
  others = before ++ (filter is_left (with_events p es ∷ []) ++ after)

  abbrev in_all : ℕ → List Timed
  in_all j = all_at s.clients before j ++ (playback_at s.clients j (with_events p (e ∷ es)) ++ all_at s.clients after j)

  abbrev in_others : ℕ → List Timed
  in_others j = all_at s.clients before j ++ (playback_at s.clients j (with_events p es) ++ all_at s.clients after j)

  at_all : (j : ℕ) → all_at s.clients all j ≡ in_all j
  unfolding all
  at_all j = flat_map-append (playback_at s.clients j) before (with_events p (e ∷ es) ∷ after)

  at_others : (j : ℕ) → all_at s.clients others j ≡ in_others j
  unfolding others
  at_others j = flat_map-append (playback_at s.clients j) before (filter is_left (with_events p es ∷ []) ++ after) ∙ ap (λ xs. all_at s.clients before j ++ xs) (go es)
    where
      go : (xs : List DueMessage) → all_at s.clients (filter is_left (with_events p xs ∷ []) ++ after) j ≡ playback_at s.clients j (with_events p xs) ++ all_at s.clients after j
      go [] = refl
      go (x ∷ xs) = refl

  due-first : (m : ℕ) → k ≤ m → ((j : ℕ) → j < k → all_at s.clients all j ≡ []) → all_at s.clients before k ≡ [] → upto (all_at s.clients all) m ≡ timed k e ∷ upto (all_at s.clients others) m
  due-first m l none first =
      upto-pop (all_at s.clients all) (all_at s.clients others) (timed k e) k m none
      (at_all k ∙ ap (λ xs. xs ++ (playback_at s.clients k (with_events p (e ∷ es)) ++ all_at s.clients after k)) first
      ∙ ap (λ xs. xs ++ all_at s.clients after k) (playback_at-first k ∙ ap (λ b. cond b (timed k e ∷ playback_at s.clients k (with_events p es)) (playback_at s.clients k (with_events p es))) now)
      ∙ ap (λ xs. timed k e ∷ (xs ++ (playback_at s.clients k (with_events p es) ++ all_at s.clients after k))) (sym first)
      ∙ ap (λ xs. timed k e ∷ xs) (sym (at_others k)))
      (λ j ne. at_all j
      ∙ ap (λ xs. all_at s.clients before j ++ (xs ++ all_at s.clients after j)) (playback_at-first j ∙ ap (λ b. cond b (timed j e ∷ playback_at s.clients j (with_events p es)) (playback_at s.clients j (with_events p es))) (other j ne))
      ∙ sym (at_others j)) l
    where
      now : at_e k ≡ true
      now = ap (is_at k) here ∙ eq-eqb k k refl

      other : (j : ℕ) → (j ≡ k → ⊥) → at_e j ≡ false
      other j ne = ap (is_at j) here ∙ ne_eqb k j (λ h. ne (sym h))

  left : ℕ → List OwnedPlayback → List OwnedPlayback
  left m ps = filter is_left (map (playback_after s.clients m) ps)

  left-append : (m : ℕ) (xs ys : List OwnedPlayback) → left m (xs ++ ys) ≡ left m xs ++ left m ys
  unfolding left
  left-append m xs ys = ap (filter is_left) (map-append (playback_after s.clients m) xs ys) ∙ filter-append is_left (map (playback_after s.clients m) xs) (map (playback_after s.clients m) ys)

  left_same : (m : ℕ) → k ≤ m → left m all ≡ left m others
  unfolding all others left
  left_same m l =
      left-append m before (with_events p (e ∷ es) ∷ after)
      ∙ ap (λ q. left m before ++ put_on q (left m after)) gone
      ∙ ap (λ xs. left m before ++ xs) (go es)
      ∙ sym (left-append m before (filter is_left (with_events p es ∷ []) ++ after))
    where
      put_on : OwnedPlayback → List OwnedPlayback → List OwnedPlayback
      put_on q xs = cond (is_left q) (q ∷ xs) xs

      rest : List DueMessage
      rest = filter (λ x. not (is_by m (event_moment s.clients p x))) es

      gone : playback_after s.clients m (with_events p (e ∷ es)) ≡ playback_after s.clients m (with_events p es)
      gone = ap (λ b. with_events p (cond (not b) (e ∷ rest) rest)) (ap (is_by m) here ∙ le-leb k m l)

      go : (xs : List DueMessage) → put_on (playback_after s.clients m (with_events p xs)) (left m after) ≡ left m (filter is_left (with_events p xs ∷ []) ++ after)
      go [] = refl
      go (x ∷ xs) = refl

  -- to settle is to send the first event, and then to settle
  pub settle-first : (m : ℕ) → k ≤ m → ((j : ℕ) → j < k → all_at s.clients all j ≡ []) → all_at s.clients before k ≡ [] →
      (let r : Settled = with_copies (with_pending s others) (event_copies s (timed k e)) in
      ((settle (with_pending s all) m).state ≡ (settle r.state m).state) × ((settle (with_pending s all) m).delivered ≡ r.delivered ++ (settle r.state m).delivered))
  unfolding left
  settle-first m l none first =
      let O : State = with_pending s others in
      let c : List Delivery = event_copies s (timed k e) in
      let rest : List Delivery = flat_map (event_copies s) (upto (all_at s.clients others) m) in
      let sends : flat_map (event_copies s) (upto (all_at s.clients all) m) ≡ c ++ rest = ap (flat_map (event_copies s)) (due-first m l none first) in (
        ap (λ ds. state_of (pools_after s.pools ds) (left m all)) sends
            ∙ ap (λ q. state_of q (left m all)) (sym (offered-append s.pools c rest))
            ∙ ap (state_of (pools_after (pools_after s.pools c) rest)) (left_same m l),
        ap (copies_with_room s.pools) sends ∙ sym (delivered-append s.pools c rest),
      )
    where
      state_of : FinMap nat_cmp ClientPool → List OwnedPlayback → State
      state_of pools pending = record { clients = s.clients; pools = pools; edges = s.edges; pending = pending }

  -- the same, where no playback before has an event up to k, and no playback an earlier one
  pub settle-least : (m : ℕ) → k ≤ m → list_all (is_late s.clients k) before ≡ true → ((j : ℕ) → j < k → list_all (is_late s.clients j) all ≡ true) →
      (let r : Settled = with_copies (with_pending s others) (event_copies s (timed k e)) in
      ((settle (with_pending s all) m).state ≡ (settle r.state m).state) × ((settle (with_pending s all) m).delivered ≡ r.delivered ++ (settle r.state m).delivered))
  settle-least m l b n = settle-first m l (λ j h. all_late s.clients j j (omega arith) all (n j h)) (all_late s.clients k k (omega arith) before b)
