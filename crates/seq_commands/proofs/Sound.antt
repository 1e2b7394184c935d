-- What holds between inputs holds at first, after settling, and after each command.
use Rattle.std.proofs.Common.{arith, ◌≡◌, ◌≤◌, ℕ, Bool, true, false, not, cond, eqb, ◌&&◌, ◌||◌, ◌⊎◌, inl, inr, List, [], ◌∷◌, ◌++◌, map, Option, Some, None, refl, sym, ap, subst, ◌∙◌}
use Rattle.std.specs.Prelude.{◌==◌, is_some}
use Rattle.std.specs.List.{filter, list_all}
use Rattle.std.specs.Ordering.{nat_cmp}
use Rattle.std.specs.FinMap
use Rattle.std.specs.FinMap.{FinMap}
use Rattle.std.proofs.lemmas.Bool.{false≢true, eqb-true, eq-eqb}
use Rattle.tempo_clock.specs.Clocks.{running_from_zero, at_rest, running_on, with_tempo}
use Rattle.node_table.specs.declared.number.QueueAddr.{QueueAddr}
use Rattle.seq_state.specs.declared.input.Command.{Command}
use Rattle.seq_state.specs.declared.input.Command.TheVariants.{Open, Close, CreatePort, DeletePort, CreateFilter, SetFilter, DeleteFilter, Bytes, CreateQueue, CreateQueueFrom, DeleteQueue, Start, Stop, Continue, Tempo, Share, Schedule, Play}
use Rattle.seq_state.specs.declared.refusal.Refusal.{Refusal}
use Rattle.seq_state.specs.declared.refusal.Refusal.TheVariants as refusal
use Rattle.smf_grammar.specs.Played.{PlayedFile}
use Rattle.seq_state.specs.State.{PortInfo, FilterInfo, Queue, Client, Playback, OwnedPlayback, State, start, queues_of, with_entry}
use Rattle.seq_state.specs.Effect.{Effect, with_change, put_port, port_fed, port_of, put_filter, filter_ruled, filter_of, has_queue, queue_of, put_queue, queue_map, with_clock, public, new_port, new_filter, held_queue, one_tempo, file_queue, file_at}
use Rattle.seq_state.specs.Table.{CommandView, Condition, first_refusal, command_row, queue_named, visible, not_open, bad_name, bad_sizes, no_port, bad_ppq, bad_tempo, no_file, not_shared, bad_time, division_differs, out_full}
use Rattle.seq_state.specs.Step.{playback_after, is_left, settle, Stepped, drops, pending_of, with_effect, named_queue, unless, view_of, row_of, refusal_of, effect_of, command_step}
use Rattle.seq_state.specs.Laws.{has_ticks}
use Rattle.seq_state.proofs.Bounds.{bounds_law, bounded-command}
use Rattle.seq_state.proofs.Effects.{get-put, put-same}
use Rattle.seq_state.proofs.Lists.{both_left, both_right, list_all-always, list_all-append, list_all-both, list_all-filter, list_all-map, list_all-passed, list_all-weaker}
use Rattle.seq_state.proofs.Rising.{ready_law, command-done}
use Rattle.seq_settle.specs.Moments.{queue_in}
use Rattle.seq_commands.specs.Whole.{is_usable, IsSound}
use Rattle.seq_commands.proofs.Accepted.{none-holds}

-- whether a client may use what stands under a number of an owner
abbrev sees : ℕ → ℕ → Option Queue → Bool
sees c owner o = is_some (visible c owner o)

-- ---- a client's queues after a command

-- whoever may use a queue that stays may use it then
abbrev StaySeen : ℕ → Option Client → Option Client → (ℕ → Bool) → Type 0
StaySeen owner client after gone =
    (c n : ℕ) → gone n ≡ false → sees c owner (queue_of client n) ≡ true → sees c owner (queue_of after n) ≡ true

none-seen : (c owner n : ℕ) → sees c owner (queue_of None n) ≡ true → ⊥
none-seen c owner n e = false≢true (sym (ap (sees c owner) (FinMap.get-empty nat_cmp n)) ∙ e)

none-there : (owner : ℕ) (client after : Option Client) (gone : ℕ → Bool) → is_some client ≡ false → StaySeen owner client after gone
none-there owner None after gone closed c n g e = absurd (none-seen c owner n e)
none-there owner (Some x) after gone closed c n g e = cc

others-change : (owner : ℕ) (client : Option Client) (f : Client → Client) (gone : ℕ → Bool) → ((x : Client) → (f x).queues ≡ x.queues) → StaySeen owner client (with_change client f) gone
others-change owner None f gone h c n g e = e
others-change owner (Some x) f gone h c n g e = ap (λ qs. sees c owner (FinMap.get qs n)) (h x) ∙ e

put_port-queues : (n : ℕ) (o : Option PortInfo) (x : Client) → (put_port n o x).queues ≡ x.queues
put_port-queues n None x = refl
put_port-queues n (Some p) x = refl

put_filter-queues : (n : ℕ) (o : Option FilterInfo) (x : Client) → (put_filter n o x).queues ≡ x.queues
put_filter-queues n None x = refl
put_filter-queues n (Some f) x = refl

put_queue-queues : (n : ℕ) (o : Option Queue) (x : Client) → (put_queue n o x).queues ≡ with_entry x.queues n o
put_queue-queues n None x = refl
put_queue-queues n (Some q) x = refl

one-changes : (owner : ℕ) (client : Option Client) (k : ℕ) (o : Option Queue) (gone : ℕ → Bool) →
    ((c : ℕ) → gone k ≡ false → sees c owner (queue_of client k) ≡ true → sees c owner o ≡ true) → StaySeen owner client (with_change client (put_queue k o)) gone
one-changes owner None k o gone h c n g e = e
one-changes owner (Some x) k o gone h c n g e =
    ap (λ qs. sees c owner (FinMap.get qs n)) (put_queue-queues k o x) ∙ ap (sees c owner) (get-put x.queues k o n) ∙ go (eqb n k) refl
  where
    go : (b : Bool) → eqb n k ≡ b → sees c owner (cond b o (FinMap.get x.queues n)) ≡ true
    go true t =
        let same : n ≡ k = eqb-true n k t in
        h c (subst (λ i. gone i ≡ false) same g) (subst (λ i. sees c owner (FinMap.get x.queues i) ≡ true) same e)
    go false t = e

-- a queue under a number that was free
one-more : (owner : ℕ) (client : Option Client) (k : ℕ) (o : Option Queue) (gone : ℕ → Bool) → has_queue client k ≡ false → StaySeen owner client (with_change client (put_queue k o)) gone
one-more owner client k o gone free = one-changes owner client k o gone (λ c g e. absurd (go c (queue_of client k) free e))
  where
    go : (c : ℕ) (was : Option Queue) → is_some was ≡ false → sees c owner was ≡ true → ⊥
    go c None f e = false≢true e
    go c (Some q) f e = cc

-- a queue that is there changes, and stays shared where it was
one-goes-on : (owner : ℕ) (client : Option Client) (k : ℕ) (f : Queue → Queue) (gone : ℕ → Bool) → ((q : Queue) → q.shared ≡ true → (f q).shared ≡ true) →
    StaySeen owner client (with_change client (put_queue k (queue_map f (queue_of client k)))) gone
one-goes-on owner client k f gone shared =
    one-changes owner client k (queue_map f (queue_of client k)) gone (λ c g e. mapped c (queue_of client k) e)
  where
    still : (own was now : Bool) (x y : Queue) → (was ≡ true → now ≡ true) → is_some (cond (own || was) (Some x) None) ≡ true → is_some (cond (own || now) (Some y) None) ≡ true
    still true was now x y h e = refl
    still false true true x y h e = refl
    still false true false x y h e = absurd (false≢true (h refl))
    still false false now x y h e = absurd (false≢true e)

    mapped : (c : ℕ) (o : Option Queue) → sees c owner o ≡ true → sees c owner (queue_map f o) ≡ true
    mapped c None e = e
    mapped c (Some q) e = still (eqb owner c) q.shared (f q).shared q (f q) (shared q) e

-- ---- each row

-- What a row leaves of the actor's queues, and what it adds: only where the actor may use the queue that is named, and
-- nothing else of the actor's changes.
record Leaves (a : CommandView) (effect : Effect) : Type 0 where
  queues : StaySeen a.actor a.client effect.client effect.queue_gone
  added : (effect.added ≡ []) ⊎ ((effect.client ≡ a.client) × (is_some a.queue ≡ true))

-- a condition among those of a command that is accepted
not-this : (before : List Condition) (r : Refusal) (b : Bool) (after : List Condition) → first_refusal (before ++ (r, b) ∷ after) ≡ None → b ≡ false
not-this [] r b after e = (none-holds r b after e).0
not-this (x ∷ xs) r b after e = not-this xs r b after (none-holds x.0 x.1 (xs ++ (r, b) ∷ after) e).1

is_so : (b : Bool) → not b ≡ false → b ≡ true
is_so true e = refl
is_so false e = absurd (false≢true (sym e))

leaves : (a : CommandView) (command : Command) → first_refusal (command_row a command).conditions ≡ None → Leaves a (command_row a command).effect
unfolding command_row
leaves a (Open name in_size out_size) r =
    let free : is_some a.client ≡ false = not-this [] refusal.AlreadyOpen (is_some a.client) (bad_name name ∷ bad_sizes in_size out_size ∷ []) r in
    record { queues = none-there a.actor a.client (command_row a (Open name in_size out_size)).effect.client (λ n. false) free; added = inl refl }
leaves a Close r = record { queues = λ c n g e. absurd (false≢true (sym g)); added = inl refl }
leaves a (CreatePort port name caps) r =
    let info : Option PortInfo = Some (new_port name caps) in
    record { queues = others-change a.actor a.client (put_port port info) (λ n. false) (put_port-queues port info); added = inl refl }
leaves a (DeletePort port) r = record { queues = others-change a.actor a.client (put_port port None) (λ n. false) (put_port-queues port None); added = inl refl }
leaves a (CreateFilter n caps rule) r =
    let info : Option FilterInfo = Some (new_filter caps rule) in
    record { queues = others-change a.actor a.client (put_filter n info) (λ n. false) (put_filter-queues n info); added = inl refl }
leaves a (SetFilter n rule) r =
    let info : Option FilterInfo = filter_ruled rule (filter_of a.client n) in
    record { queues = others-change a.actor a.client (put_filter n info) (λ n. false) (put_filter-queues n info); added = inl refl }
leaves a (DeleteFilter n) r = record { queues = others-change a.actor a.client (put_filter n None) (λ n. false) (put_filter-queues n None); added = inl refl }
leaves a (Bytes port bytes) r =
    let info : Option PortInfo = port_fed bytes (port_of a.client port) in
    record { queues = others-change a.actor a.client (put_port port info) (λ n. false) (put_port-queues port info); added = inl refl }
leaves a (CreateQueue n ppq tempo) r =
    let free : has_queue a.client n ≡ false = not-this (not_open a ∷ bad_ppq ppq ∷ []) refusal.QueueExists (has_queue a.client n) (bad_tempo tempo ∷ []) r in
    record { queues = one-more a.actor a.client n (Some (held_queue (one_tempo ppq tempo))) (λ n. false) free; added = inl refl }
leaves a (CreateQueueFrom n file) r =
    let free : has_queue a.client n ≡ false = not-this (not_open a ∷ []) refusal.QueueExists (has_queue a.client n) (no_file a file ∷ []) r in
    record { queues = one-more a.actor a.client n (file_queue (file_at a.files file)) (λ n. false) free; added = inl refl }
leaves a (DeleteQueue q) r = record { queues = one-changes a.actor a.client q.queue None (λ n. n == q.queue) (λ c g e. absurd (false≢true (sym g ∙ itself q.queue))); added = inl refl }
  where
    itself : (n : ℕ) → eqb n n ≡ true
    itself n = eq-eqb n n refl
leaves a (Start q) r = record { queues = one-goes-on a.actor a.client q.queue (with_clock (λ c. running_from_zero c a.moment)) (λ n. false) (λ x h. h); added = inl refl }
leaves a (Stop q) r = record { queues = one-goes-on a.actor a.client q.queue (with_clock (λ c. at_rest c a.moment)) (λ n. false) (λ x h. h); added = inl refl }
leaves a (Continue q) r = record { queues = one-goes-on a.actor a.client q.queue (with_clock (λ c. running_on c a.moment)) (λ n. false) (λ x h. h); added = inl refl }
leaves a (Tempo q tempo) r = record { queues = one-goes-on a.actor a.client q.queue (with_clock (λ c. with_tempo c a.moment tempo)) (λ n. false) (λ x h. h); added = inl refl }
leaves a (Share q) r = record { queues = one-goes-on a.actor a.client q.queue public (λ n. false) (λ x h. refl); added = inl refl }
leaves a (Schedule q port due message) r =
    let rs : List Condition = not_open a ∷ no_port a port ∷ not_shared a q ∷ [] in
    record { queues = λ c n g e. e; added = inr (refl, is_so (is_some a.queue) (not-this rs refusal.NoQueue (not (is_some a.queue)) (bad_time a due ∷ out_full a ∷ []) r)) }
leaves a (Play q port file) r =
    let rs : List Condition = not_open a ∷ no_port a port ∷ not_shared a q ∷ [] in
    record { queues = λ c n g e. e; added = inr (refl, is_so (is_some a.queue) (not-this rs refusal.NoQueue (not (is_some a.queue)) (no_file a file ∷ division_differs a file ∷ out_full a ∷ []) r)) }
leaves a command r = record { queues = λ c n g e. e; added = inl refl }

-- ---- after a command of the actor's own

-- one of a client's queues after the clients changed
queue-put : (clients : FinMap nat_cmp Client) (actor : ℕ) (o : Option Client) (c n : ℕ) →
    FinMap.get (queues_of (FinMap.get (with_entry clients actor o) c)) n ≡ queue_of (cond (eqb c actor) o (FinMap.get clients c)) n
queue-put clients actor o c n = ap (λ x. queue_of x n) (get-put clients actor o c)

module _ (s : State) (actor : ℕ) (q : Option QueueAddr) (effect : Effect) (a : CommandView) (at : a.actor ≡ actor) (of : a.client ≡ FinMap.get s.clients actor)
    (named : a.queue ≡ named_queue s.clients actor q) (l : Leaves a effect) where
  abbrev clients : FinMap nat_cmp Client
  clients = with_entry s.clients actor effect.client

  queues : StaySeen actor (FinMap.get s.clients actor) effect.client effect.queue_gone
  queues = subst (λ i. StaySeen i (FinMap.get s.clients actor) effect.client effect.queue_gone) at (subst (λ o. StaySeen a.actor o effect.client effect.queue_gone) of l.queues)

  stays : (p : OwnedPlayback) → not (drops actor effect p) ≡ true → is_usable s.clients p ≡ true → is_usable clients p ≡ true
  stays p k u = ap (sees p.client p.queue.client) (queue-put s.clients actor effect.client p.queue.client p.queue.queue) ∙ go (eqb p.queue.client actor) refl
    where
      kept : (x b : Bool) → b ≡ true → not (x || (b && effect.queue_gone p.queue.queue)) ≡ true → effect.queue_gone p.queue.queue ≡ false
      kept x b e h = grind arith

      go : (b : Bool) → eqb p.queue.client actor ≡ b → sees p.client p.queue.client (queue_of (cond b effect.client (FinMap.get s.clients p.queue.client)) p.queue.queue) ≡ true
      go true t =
          let same : p.queue.client ≡ actor = eqb-true p.queue.client actor t in
          subst (λ i. sees p.client i (queue_of effect.client p.queue.queue) ≡ true) (sym same)
          (queues p.client p.queue.queue (kept (eqb p.client actor && effect.dropped p.playback) (eqb p.queue.client actor) t k)
          (subst (λ i. sees p.client i (queue_of (FinMap.get s.clients i) p.queue.queue) ≡ true) same u))
      go false t = u

  -- the actor may use the queue that is named
  new-usable : effect.client ≡ FinMap.get s.clients actor → is_some (named_queue s.clients actor q) ≡ true → (p : Playback) → is_usable clients (pending_of actor q p) ≡ true
  new-usable same there p = go q there
    where
      go : (i : Option QueueAddr) → is_some (named_queue s.clients actor i) ≡ true → is_usable clients (pending_of actor i p) ≡ true
      go None h = absurd (false≢true h)
      go (Some i) h = ap (λ m. sees actor i.client (queue_in m i)) (ap (with_entry s.clients actor) same ∙ put-same s.clients actor) ∙ h

  all-new : list_all (is_usable clients) (map (pending_of actor q) effect.added) ≡ true
  all-new = go l.added
    where
      go : (effect.added ≡ []) ⊎ ((effect.client ≡ a.client) × (is_some a.queue ≡ true)) → list_all (is_usable clients) (map (pending_of actor q) effect.added) ≡ true
      go (inl none) = ap (λ ps. list_all (is_usable clients) (map (pending_of actor q) ps)) none
      go (inr some) =
          list_all-map (is_usable clients) (λ p. true) (pending_of actor q) (λ p h. new-usable (some.0 ∙ of) (ap is_some (sym named) ∙ some.1) p) effect.added (list_all-always (λ p. true) (λ p. refl) effect.added)

  usable-own : list_all (is_usable s.clients) s.pending ≡ true → list_all (is_usable clients) (with_effect s actor q effect).pending ≡ true
  usable-own h =
      let keep : OwnedPlayback → Bool = λ p. not (drops actor effect p) in
      let old : List OwnedPlayback = filter keep s.pending in
      let both : list_all (λ p. keep p && is_usable s.clients p) old ≡ true = list_all-both keep (is_usable s.clients) old (list_all-passed keep s.pending) (list_all-filter (is_usable s.clients) keep s.pending h) in
      list_all-append (is_usable clients) old (filter is_left (map (pending_of actor q) effect.added))
      (list_all-weaker (λ p. keep p && is_usable s.clients p) (is_usable clients) (λ p e. stays p (both_left (keep p) (is_usable s.clients p) e) (both_right (keep p) (is_usable s.clients p) e)) old both)
      (list_all-filter (is_usable clients) is_left (map (pending_of actor q) effect.added) all-new)

-- ---- each step

abbrev AllUsable : State → Type 0
AllUsable s = list_all (is_usable s.clients) s.pending ≡ true

usable-unless : (s : State) → AllUsable s → (o : Option Refusal) (effect : Stepped) → (o ≡ None → AllUsable effect.state) → AllUsable (unless o s effect).state
usable-unless s h None effect f = f refl
usable-unless s h (Some r) effect f = h

usable-done : (files : List PlayedFile) (s : State) (m actor : ℕ) (command : Command) → AllUsable s → AllUsable (command_step files s m actor command).state
usable-done files s m actor command h =
    let a : CommandView = view_of files s m actor command in
    usable-unless s h (refusal_of files s m actor command) (effect_of files s m actor command)
    (λ e. usable-own s actor (queue_named command) (row_of files s m actor command).effect a refl refl refl (leaves a command e) h)

pub sound-start : IsSound start 0
sound-start = record { ready = ready_law.at_first; bounded = bounds_law.at_first; usable = refl }

pub sound-settled : (s : State) (now m : ℕ) → now ≤ m → IsSound s now → IsSound (settle s m).state m
sound-settled s now m later sound =
    let after : OwnedPlayback → OwnedPlayback = playback_after s.clients m in
    record {
      ready = ready_law.settled s now m later sound.ready;
      bounded = bounds_law.settled s m sound.bounded;
      usable = list_all-filter (is_usable s.clients) is_left (map after s.pending) (list_all-map (is_usable s.clients) (is_usable s.clients) after (λ p u. u) s.pending sound.usable);
    }

pub sound-done : (files : List PlayedFile) → list_all has_ticks files ≡ true → (s : State) (m actor : ℕ) (command : Command) → IsSound s m → IsSound (command_step files s m actor command).state m
sound-done files ok s m actor command sound =
    record {
      ready = (command-done files ok s m actor command sound.ready).ready;
      bounded = bounded-command files s m actor command sound.bounded;
      usable = usable-done files s m actor command sound.usable;
    }
