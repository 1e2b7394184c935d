-- What is known of an accepted command on a queue.
use Rattle.std.proofs.Common.{◌≡◌, ℕ, ◌<◌, Bool, true, false, not, cond, eqb, ◌||◌, List, [], ◌∷◌, Option, Some, None, refl, sym, ap, ◌∙◌}
use Rattle.std.specs.Prelude.{is_some, IsSome}
use Rattle.std.specs.FinMap
use Rattle.std.proofs.lemmas.Bool.{false≢true, not-false, or_parts, eqb-true, leb-false}
use Rattle.tempo_clock.specs.Entries.{is_ppq, is_tempo}
use Rattle.node_table.specs.declared.number.QueueAddr.{QueueAddr}
use Rattle.seq_state.specs.declared.input.Command.{Command}
use Rattle.seq_state.specs.declared.input.Command.TheVariants.{CreateQueue, CreateQueueFrom, Start, Stop, Continue, Tempo, QueueStatus}
use Rattle.smf_grammar.specs.Played.{PlayedFile}
use Rattle.seq_state.specs.State.{Client, Queue, State}
use Rattle.seq_state.specs.Effect.{queue_of, queue_is, runs, counts_frames, file_at}
use Rattle.seq_state.specs.Table.{CommandView, first_refusal, not_open, not_yours, no_queue, queue_running, command_row, visible}
use Rattle.seq_state.specs.Step.{view_of, row_of, refusal_of, named_queue}
use Rattle.seq_settle.specs.Moments.{queue_in}
use Rattle.seq_clients.proofs.Tested.{none_if_not, some_if}
use Rattle.seq_commands.proofs.ClientsAccepted.{NoneHold, none-hold}

-- a test of the queue that is there
tested : (test : Queue → Bool) (b : Bool) (o : Option Queue) → queue_is test o ≡ b → (x : Queue) → o ≡ Some x → test x ≡ b
tested test b o h x e = sym (ap (queue_is test) e) ∙ h

-- the actor's own queue, where it is held
held-own : (a : CommandView) (q : QueueAddr) → first_refusal (not_open a ∷ not_yours a q ∷ no_queue a q ∷ queue_running a q ∷ []) ≡ None →
    (q.client ≡ a.actor) × ((x : Queue) → queue_of a.client q.queue ≡ Some x → x.clock.since ≡ None)
held-own a q e =
    let h = none-hold (not_open a ∷ not_yours a q ∷ no_queue a q ∷ queue_running a q ∷ []) e in
    (eqb-true q.client a.actor (not-false (eqb q.client a.actor) h.1.0), λ x at. none_if_not x.clock.since (tested runs false (queue_of a.client q.queue) h.1.1.1.0 x at))

-- what the actor may use is the queue that is there
visible-there : (actor owner : ℕ) (o : Option Queue) → is_some (visible actor owner o) ≡ true → visible actor owner o ≡ o
visible-there actor owner None e = refl
visible-there actor owner (Some x) e = go (eqb owner actor || x.shared) e
  where
    go : (b : Bool) → is_some (cond b (Some x) None) ≡ true → cond b (Some x) None ≡ Some x
    go true t = refl
    go false t = absurd (false≢true t)

module _ (files : List PlayedFile) (s : State) (moment actor : ℕ) where
  abbrev client : Option Client
  client = FinMap.get s.clients actor

  abbrev accepts : Command → Type 0
  accepts command = refusal_of files s moment actor command ≡ None

  abbrev no-condition : (command : Command) → accepts command → NoneHold (row_of files s moment actor command).conditions
  no-condition command e = none-hold (row_of files s moment actor command).conditions e

  pub accepted-queue : (n ppq tempo : ℕ) → accepts (CreateQueue n ppq tempo) → (is_ppq ppq ≡ true) × (is_tempo tempo ≡ true) × (queue_of client n ≡ None)
  unfolding command_row
  accepted-queue n ppq tempo e =
      let h = no-condition (CreateQueue n ppq tempo) e in
      (not-false (is_ppq ppq) h.1.0, not-false (is_tempo tempo) h.1.1.1.0, none_if_not (queue_of client n) h.1.1.0)

  pub accepted-queue-from : (n file : ℕ) → accepts (CreateQueueFrom n file) → (is_some (file_at files file) ≡ true) × (queue_of client n ≡ None)
  unfolding command_row
  accepted-queue-from n file e =
      let h = no-condition (CreateQueueFrom n file) e in
      (not-false (is_some (file_at files file)) h.1.1.0, none_if_not (queue_of client n) h.1.0)

  pub accepted-start : (q : QueueAddr) → accepts (Start q) → (q.client ≡ actor) × ((x : Queue) → queue_of client q.queue ≡ Some x → x.clock.since ≡ None)
  unfolding command_row
  accepted-start q e = held-own (view_of files s moment actor (Start q)) q e

  pub accepted-continue : (q : QueueAddr) → accepts (Continue q) → (q.client ≡ actor) × ((x : Queue) → queue_of client q.queue ≡ Some x → x.clock.since ≡ None)
  unfolding command_row
  accepted-continue q e = held-own (view_of files s moment actor (Continue q)) q e

  pub accepted-stop : (q : QueueAddr) → accepts (Stop q) → (q.client ≡ actor) × ((x : Queue) → queue_of client q.queue ≡ Some x → IsSome x.clock.since)
  unfolding command_row
  accepted-stop q e =
      let h = no-condition (Stop q) e in
      let running : queue_is runs (queue_of client q.queue) ≡ true = not-false (queue_is runs (queue_of client q.queue)) h.1.1.1.0 in
      (eqb-true q.client actor (not-false (eqb q.client actor) h.1.0), λ x at. some_if x.clock.since (tested runs true (queue_of client q.queue) running x at))

  pub accepted-tempo : (q : QueueAddr) (tempo : ℕ) → accepts (Tempo q tempo) →
      (q.client ≡ actor) × (is_tempo tempo ≡ true) × ((x : Queue) → queue_of client q.queue ≡ Some x → x.clock.map.division < 32768)
  unfolding command_row
  accepted-tempo q tempo e =
      let h = no-condition (Tempo q tempo) e in
      let n = or_parts (not (is_tempo tempo)) (queue_is counts_frames (queue_of client q.queue)) h.1.1.1.0 in (
        eqb-true q.client actor (not-false (eqb q.client actor) h.1.0),
        not-false (is_tempo tempo) n.0,
        λ x at. leb-false 32768 x.clock.map.division (tested counts_frames false (queue_of client q.queue) n.1 x at),
      )

  pub accepted-status : (q : QueueAddr) → accepts (QueueStatus q) → (is_some (queue_in s.clients q) ≡ true) × (named_queue s.clients actor (Some q) ≡ queue_in s.clients q)
  unfolding command_row
  accepted-status q e =
      let h = no-condition (QueueStatus q) e in
      let there : is_some (visible actor q.client (queue_in s.clients q)) ≡ true = not-false (is_some (visible actor q.client (queue_in s.clients q))) h.1.1.0 in
      let same : visible actor q.client (queue_in s.clients q) ≡ queue_in s.clients q = visible-there actor q.client (queue_in s.clients q) there in
      (sym (ap is_some same) ∙ there, same)
