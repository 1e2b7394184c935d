-- One turn of the settling loop, and its end.
use Rattle.std.proofs.Common.{◌≡◌, ◌≢◌, ℕ, suc, ◌+◌, ◌≤◌, ◌<◌, true, not, cond, ◌⊎◌, inl, inr, List, [], ◌∷◌, ◌++◌, map, length, Option, Some, None, refl, sym, ap, subst, ◌∙◌, arith}
use Rattle.std.specs.List.{filter, list_all, flat_map}
use Rattle.std.specs.Option.{option_to_list}
use Rattle.std.specs.declared.cmp.Ordering.TheVariants.{Less, Equal}
use Rattle.std.specs.Ordering.{nat_cmp, ordering_then}
use Rattle.std.specs.Cmp.{nat_cmp_is}
use Rattle.std.specs.FinMap
use Rattle.std.specs.FinMap.{FinMap}
use Rattle.std.proofs.lemmas.Bool.{lt-leb, cases_lt}
use Rattle.std.proofs.lemmas.Option.{none-some, same_Some}
use Rattle.patch_graph.specs.declared.edge.Edge.{Edge}
use Rattle.seq_state.specs.State.{Client, ClientPool, DueMessage, OwnedPlayback, State, with_entry}
use Rattle.seq_state.specs.Step.{event_moment, is_by, all_at, upto, Timed, playback_after, is_left, event_copies, Settled, with_copies, settle}
use Rattle.seq_state.proofs.Lists.{both_left, both_right, filter-all, list_all-weaker}
use Rattle.seq_state.proofs.Settling.{upto-none}
use Rattle.seq_state.proofs.Pop.{with_pending, is_late, not_before, is_rising, is_rising_from, all_late, late_first, settle-least, all, others}
use Rattle.agenda_heap.specs.declared.due_key.DueKey.{DueKey}
use Rattle.agenda_heap.specs.Due.{due_cmp, IsFirstDue, NoneDue}
use Rattle.seq_settle.specs.Cells.{PlaybackCell, at_rank, by_rank, playbacks, seen_state, are_in_order, pending_in, AreCells, first_moment, cell_key, key_of, with_events, cell_rest, due_le, events_in}
use Rattle.seq_settle.proofs.Clocks.{event_moment-is, event_moment-rises}
use Rattle.seq_settle.specs.Moments.{moment_at}
use Rattle.seq_settle.proofs.Ranks.{at_rank-some, ranked_from, ranked-all, all_of}
use Rattle.seq_settle.proofs.Stores.{Fits, put_cells, pending_of_cell, playbacks-changed, playbacks-here}

-- ---- keys

-- a map has for each cell the key of its first event
pub record AreFirstKeys (clients : FinMap nat_cmp Client) (cells : FinMap nat_cmp PlaybackCell) (agenda : FinMap nat_cmp DueKey) : Type 0 where
  pub keyed : (q : ℕ) → FinMap.get agenda q ≡ key_of clients (FinMap.get cells q)

pub key_at-some : (c : PlaybackCell) (o : Option ℕ) (key : DueKey) → cell_key c o ≡ Some key → (o ≡ Some key.moment) × (c.1.rank ≡ key.rank)
key_at-some c None key e = absurd (none-some key e)
key_at-some c (Some m) key e = let same : record { moment = m; rank = c.1.rank; place = 0 } ≡ key = same_Some _ key e in
    (ap (λ (k : DueKey). Some k.moment) same, ap (λ (k : DueKey). k.rank) same)

-- a cell with a key is there
pub key_of-some : (clients : FinMap nat_cmp Client) (o : Option PlaybackCell) (key : DueKey) → key_of clients o ≡ Some key → (c : PlaybackCell) × (o ≡ Some c) × (first_moment clients (pending_in c) c.1.events ≡ Some key.moment) × (c.1.rank ≡ key.rank)
key_of-some clients None key e = absurd (none-some key e)
key_of-some clients (Some c) key e = let h = key_at-some c (first_moment clients (pending_in c) c.1.events) key e in (c, refl, h.0, h.1)

-- what is not less has no earlier moment
pub not_less_moment : (a b : DueKey) → due_cmp a b ≢ Less → b.moment ≤ a.moment
not_less_moment a b n = go (cases_lt a.moment b.moment)
  where
    go : (a.moment < b.moment) ⊎ (b.moment ≤ a.moment) → b.moment ≤ a.moment
    go (inl l) = let less : nat_cmp a.moment b.moment ≡ Less = sym (nat_cmp_is a.moment b.moment Less l) in
        absurd (n (ap (λ r. ordering_then r (ordering_then (nat_cmp a.rank b.rank) (nat_cmp a.place b.place))) less))
    go (inr l) = l

-- and with a lower rank it has a later one
pub not_less_rank : (a b : DueKey) → due_cmp a b ≢ Less → a.rank < b.rank → b.moment < a.moment
not_less_rank a b n r = go (cases_lt b.moment a.moment)
  where
    go : (b.moment < a.moment) ⊎ (a.moment ≤ b.moment) → b.moment < a.moment
    go (inl l) = l
    go (inr l) =
        let le : b.moment ≤ a.moment = not_less_moment a b n in
        let same : a.moment ≡ b.moment = omega arith in
        let tie : nat_cmp a.moment b.moment ≡ Equal = sym (nat_cmp_is a.moment b.moment Equal same) in
        let less : nat_cmp a.rank b.rank ≡ Less = sym (nat_cmp_is a.rank b.rank Less r) in
        absurd (n (ap (λ x. ordering_then x (ordering_then (nat_cmp a.rank b.rank) (nat_cmp a.place b.place))) tie ∙ ap (λ x. ordering_then x (nat_cmp a.place b.place)) less))

events_in-append : (ps qs : List OwnedPlayback) → events_in (ps ++ qs) ≡ events_in ps + events_in qs
events_in-append [] qs = omega arith
events_in-append (p ∷ ps) qs = let more : events_in (ps ++ qs) ≡ events_in ps + events_in qs = events_in-append ps qs in omega arith

-- ---- late playbacks

module _ (clients : FinMap nat_cmp Client) (cells : FinMap nat_cmp PlaybackCell) (agenda : FinMap nat_cmp DueKey) (n : ℕ) (are : AreCells cells n) (keys : AreFirstKeys clients cells agenda) where
  -- a cell whose key, if it has one, comes after j has nothing to send up to j
  pub late_cell : (j q : ℕ) (c : PlaybackCell) → FinMap.get cells q ≡ Some c → ((key : DueKey) → FinMap.get agenda q ≡ Some key → j < key.moment) → is_late clients j (pending_in c) ≡ true
  late_cell j q c here after = go c.1.events refl
    where
      keyed : FinMap.get agenda q ≡ cell_key c (first_moment clients (pending_in c) c.1.events)
      keyed = keys.keyed q ∙ ap (key_of clients) here

      not_by : (o : Option ℕ) → FinMap.get agenda q ≡ cell_key c o → not (is_by j o) ≡ true
      not_by None e = refl
      not_by (Some m) e = let l : j < m = after (record { moment = m; rank = c.1.rank; place = 0 }) e in ap not (lt-leb m j l)

      rising : (e : DueMessage) (es : List DueMessage) → c.1.events ≡ e ∷ es → is_rising clients (pending_in c) ≡ true
      rising e es f = subst (λ xs. is_rising_from clients (pending_in c) xs ≡ true) (sym f)
          (list_all-weaker (λ x. due_le e.due x.due) (λ x. not_before clients (event_moment clients (pending_in c) e) (event_moment clients (pending_in c) x)) (λ x l. event_moment-rises clients (pending_in c) e x l) es
          (both_left (list_all (λ x. due_le e.due x.due) es) (are_in_order es) (subst (λ xs. are_in_order xs ≡ true) f (are.ordered q c here))))

      go : (es : List DueMessage) → c.1.events ≡ es → is_late clients j (pending_in c) ≡ true
      go [] f = subst (λ xs. list_all (λ e. not (is_by j (event_moment clients (pending_in c) e))) xs ≡ true) (sym f) refl
      go (e ∷ es) f = late_first clients j (pending_in c) e es f (rising e es f)
          (ap (λ o. not (is_by j o)) (event_moment-is clients (pending_in c) e) ∙ not_by (moment_at clients c.1.queue c.1.accepted e.due) (keyed ∙ ap (λ xs. cell_key c (first_moment clients (pending_in c) xs)) f))

  -- all playbacks of ranks that a bound on keys covers
  pub late_all : (j m : ℕ) → ((q : ℕ) (c : PlaybackCell) (key : DueKey) → FinMap.get cells q ≡ Some c → c.1.rank < m → FinMap.get agenda q ≡ Some key → j < key.moment) → list_all (is_late clients j) (by_rank (at_rank cells) m) ≡ true
  late_all j m after = ranked-all (is_late clients j) (at_rank cells) m (λ r l. go r l (at_rank cells r) refl)
    where
      go : (r : ℕ) → r < m → (o : Option OwnedPlayback) → at_rank cells r ≡ o → all_of (is_late clients j) o ≡ true
      go r l None e = refl
      go r l (Some p) e =
          let h = at_rank-some cells r p e in
          let small : h.1.1.rank < m = subst (λ i. i < m) (sym h.3) l in
          subst (λ x. is_late clients j x ≡ true) h.4 (late_cell j h.0 h.1 h.2 (λ key f. after h.0 h.1 key h.2 small f))

  -- ---- one event goes

  module _ (pools : FinMap nat_cmp ClientPool) (edges : List Edge) (k m : ℕ) (key : DueKey) (first : IsFirstDue agenda k key m) (c : PlaybackCell) (here : FinMap.get cells k ≡ Some c) (e : DueMessage) (es : List DueMessage) (events : c.1.events ≡ e ∷ es) where
    abbrev pub after : FinMap nat_cmp PlaybackCell
    after = with_entry cells k (cell_rest c es)

    pub its_key : (event_moment clients (pending_in c) e ≡ Some key.moment) × (c.1.rank ≡ key.rank)
    its_key =
        let h = key_at-some c (moment_at clients c.1.queue c.1.accepted e.due) key
        (ap (λ xs. cell_key c (first_moment clients (pending_in c) xs)) (sym events) ∙ sym (ap (key_of clients) here) ∙ sym (keys.keyed k) ∙ first.here) in
        (event_moment-is clients (pending_in c) e ∙ h.0, h.1)

    rest_rank : (xs : List DueMessage) (d : PlaybackCell) → cell_rest c xs ≡ Some d → d.1.rank ≡ c.1.rank
    rest_rank [] d f = absurd (none-some d f)
    rest_rank (x ∷ xs) d f = ap (λ (y : PlaybackCell). y.1.rank) (sym (same_Some _ d f))

    pub after_cells : AreCells after n
    after_cells = put_cells cells n n k (cell_rest c es) (omega arith) (λ d f. fits es (both_right (list_all (λ x. due_le e.due x.due) es) (are_in_order es) (subst (λ xs. are_in_order xs ≡ true) events (are.ordered k c here))) d f) are
      where
        fits : (xs : List DueMessage) → are_in_order xs ≡ true → (d : PlaybackCell) → cell_rest c xs ≡ Some d → Fits cells k n d
        fits [] o d f = absurd (none-some d f)
        fits (x ∷ xs) o d f = subst (Fits cells k n) (same_Some _ d f) (record {
          early = are.early k c here;
          alone = λ q b g same. are.apart q k b c g here same;
          filled = refl;
          ordered = o;
          queue = are.queues k c here;
        })

    before : List OwnedPlayback
    before = by_rank (at_rank cells) c.1.rank

    later : List OwnedPlayback
    later = ranked_from (at_rank cells) c.1.rank n

    was : playbacks cells n ≡ before ++ (with_events (pending_in c) (e ∷ es) ∷ later)
    unfolding before later
    was = playbacks-here cells n k c are here ∙ ap (λ xs. before ++ (with_events (pending_in c) xs ∷ later)) events

    is : playbacks after n ≡ before ++ (filter is_left (with_events (pending_in c) es ∷ []) ++ later)
    unfolding before later
    is = playbacks-changed cells n k c (cell_rest c es) are after_cells here (rest_rank es) ∙ ap (λ xs. before ++ (xs ++ later)) (go es)
      where
        go : (xs : List DueMessage) → option_to_list (pending_of_cell (cell_rest c xs)) ≡ filter is_left (with_events (pending_in c) xs ∷ [])
        go [] = refl
        go (x ∷ xs) = refl

    -- with an event less in all
    pub fewer : events_in (playbacks after n) < events_in (playbacks cells n)
    fewer =
        let a : events_in (playbacks cells n) ≡ events_in before + (suc (length es) + events_in later) = ap events_in was ∙ events_in-append before (with_events (pending_in c) (e ∷ es) ∷ later) in
        let b : events_in (playbacks after n) ≡ events_in before + (length es + events_in later) = ap events_in is ∙ events_in-append before (filter is_left (with_events (pending_in c) es ∷ []) ++ later) ∙ ap (λ x. events_in before + x) (go es) in
        omega arith
      where
        go : (xs : List DueMessage) → events_in (filter is_left (with_events (pending_in c) xs ∷ []) ++ later) ≡ length xs + events_in later
        go [] = omega arith
        go (x ∷ xs) = refl

    late_before : list_all (is_late clients key.moment) before ≡ true
    unfolding before
    late_before = late_all key.moment c.1.rank (λ q d other f l g.
        let h = key_of-some clients (FinMap.get cells q) other (sym (keys.keyed q) ∙ g) in
        let same : h.0 ≡ d = same_Some h.0 d (sym h.1 ∙ f) in
        let rank : d.1.rank ≡ other.rank = ap (λ (x : PlaybackCell). x.1.rank) (sym same) ∙ h.3 in
        let mine : c.1.rank ≡ key.rank = its_key.1 in
        let low : other.rank < key.rank = omega arith in
        not_less_rank other key (first.least q other g) low)

    late_then : (j : ℕ) → j < key.moment → list_all (is_late clients j) (playbacks cells n) ≡ true
    late_then j l = late_all j n (λ q d other f s g. let le : key.moment ≤ other.moment = not_less_moment other key (first.least q other g) in omega arith)

    -- to settle is to send this event, and then to settle
    pub settle_turn :
        (let r : Settled = with_copies (seen_state clients pools edges after n) (event_copies (seen_state clients pools edges cells n) (record { moment = key.moment; client = c.0; port = c.1.port; message = e.message })) in
        ((settle (seen_state clients pools edges cells n) m).state ≡ (settle r.state m).state) × ((settle (seen_state clients pools edges cells n) m).delivered ≡ r.delivered ++ (settle r.state m).delivered))
    unfolding all others
    settle_turn =
        let s : State = seen_state clients pools edges cells n in
        let t : Timed = record { moment = key.moment; client = c.0; port = c.1.port; message = e.message } in
        let h = settle-least s before later (pending_in c) e es key.moment its_key.0 m first.due late_before (λ j l. subst (λ xs. list_all (is_late clients j) xs ≡ true) was (late_then j l)) in
        let from : (xs : List OwnedPlayback) → xs ≡ playbacks cells n → (ys : List OwnedPlayback) → ys ≡ playbacks after n →
        (let r : Settled = with_copies (with_pending s ys) (event_copies s t) in ((settle (with_pending s xs) m).state ≡ (settle r.state m).state) × ((settle (with_pending s xs) m).delivered ≡ r.delivered ++ (settle r.state m).delivered)) →
        (let r : Settled = with_copies (with_pending s (playbacks after n)) (event_copies s t) in ((settle (with_pending s (playbacks cells n)) m).state ≡ (settle r.state m).state) × ((settle (with_pending s (playbacks cells n)) m).delivered ≡ r.delivered ++ (settle r.state m).delivered)) =
        λ xs ex ys ey g. subst (λ ps. (let r : Settled = with_copies (with_pending s (playbacks after n)) (event_copies s t) in ((settle (with_pending s ps) m).state ≡ (settle r.state m).state) × ((settle (with_pending s ps) m).delivered ≡ r.delivered ++ (settle r.state m).delivered))) ex
        (subst (λ ps. (let r : Settled = with_copies (with_pending s ps) (event_copies s t) in ((settle (with_pending s xs) m).state ≡ (settle r.state m).state) × ((settle (with_pending s xs) m).delivered ≡ r.delivered ++ (settle r.state m).delivered))) ey g) in
        from (before ++ (with_events (pending_in c) (e ∷ es) ∷ later)) (sym was) (before ++ (filter is_left (with_events (pending_in c) es ∷ []) ++ later)) (sym is) h

-- ---- the end

filled_all : (cells : FinMap nat_cmp PlaybackCell) (n : ℕ) → AreCells cells n → list_all is_left (playbacks cells n) ≡ true
filled_all cells n are = ranked-all is_left (at_rank cells) n (λ r l. go r (at_rank cells r) refl)
  where
    go : (r : ℕ) (o : Option OwnedPlayback) → at_rank cells r ≡ o → all_of is_left o ≡ true
    go r None e = refl
    go r (Some p) e = let h = at_rank-some cells r p e in subst (λ x. is_left x ≡ true) h.4 (are.filled h.0 h.1 h.2)

same_after : (clients : FinMap nat_cmp Client) (m : ℕ) (ps : List OwnedPlayback) → list_all (is_late clients m) ps ≡ true → list_all is_left ps ≡ true → filter is_left (map (playback_after clients m) ps) ≡ ps
same_after clients m [] h l = refl
same_after clients m (p ∷ ps) h l =
    let one : playback_after clients m p ≡ p = ap (with_events p) (filter-all (λ e. not (is_by m (event_moment clients p e))) p.playback.events (both_left (is_late clients m p) (list_all (is_late clients m) ps) h)) in
    let more : filter is_left (map (playback_after clients m) ps) ≡ ps = same_after clients m ps (both_right (is_late clients m p) (list_all (is_late clients m) ps) h) (both_right (is_left p) (list_all is_left ps) l) in
    ap (λ x. cond (is_left x) (x ∷ filter is_left (map (playback_after clients m) ps)) (filter is_left (map (playback_after clients m) ps))) one
    ∙ ap (λ b. cond b (p ∷ filter is_left (map (playback_after clients m) ps)) (filter is_left (map (playback_after clients m) ps))) (both_left (is_left p) (list_all is_left ps) l)
    ∙ ap (λ xs. p ∷ xs) more

-- where nothing is due, settling does nothing
pub settle_end : (clients : FinMap nat_cmp Client) (pools : FinMap nat_cmp ClientPool) (edges : List Edge) (cells : FinMap nat_cmp PlaybackCell) (agenda : FinMap nat_cmp DueKey) (n m : ℕ) → AreCells cells n → AreFirstKeys clients cells agenda → NoneDue agenda m →
    ((settle (seen_state clients pools edges cells n) m).state ≡ seen_state clients pools edges cells n) × ((settle (seen_state clients pools edges cells n) m).delivered ≡ [])
settle_end clients pools edges cells agenda n m are keys none =
    let s : State = seen_state clients pools edges cells n in
    let late : list_all (is_late clients m) (playbacks cells n) ≡ true = late_all clients cells agenda n are keys m n (λ q c key f l g. none q key g) in
    let nothing : upto (all_at clients (playbacks cells n)) m ≡ [] = upto-none (all_at clients (playbacks cells n)) m (λ j l. all_late clients j m l (playbacks cells n) late) in
    let same : filter is_left (map (playback_after clients m) (playbacks cells n)) ≡ playbacks cells n = same_after clients m (playbacks cells n) late (filled_all cells n are) in (
      ap (λ ds. (with_copies (with_pending s (filter is_left (map (playback_after clients m) (playbacks cells n)))) (flat_map (event_copies s) ds)).state) nothing ∙ ap (with_pending s) same,
      ap (λ ds. (with_copies (with_pending s (filter is_left (map (playback_after clients m) (playbacks cells n)))) (flat_map (event_copies s) ds)).delivered) nothing,
    )
