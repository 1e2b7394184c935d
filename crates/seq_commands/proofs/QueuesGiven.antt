-- What a sequencer gives one queue of which changed.
use Rattle.std.proofs.Common.{◌≡◌, ℕ, Bool, true, false, eqb, eq-eqb, [], Option, Some, None, refl, sym, ap, ◌∙◌}
use Rattle.std.specs.Prelude.{is_some}
use Rattle.std.specs.Option.{option_map}
use Rattle.std.specs.Ordering.{nat_cmp}
use Rattle.std.specs.FinMap
use Rattle.std.specs.FinMap.{FinMap}
use Rattle.std.proofs.lemmas.Bool.{false≢true, eqb-true}
use Rattle.smf_grammar.specs.Contents.{entries_of}
use Rattle.smf_grammar.specs.Files.{MidiFile}
use Rattle.smf_grammar.specs.Played.{as_played}
use Rattle.tempo_clock.specs.Clocks.{Clock, elapsed_time}
use Rattle.tempo_clock.specs.Ticks.{Tempos, tick_at}
use Rattle.tempo_clock.specs.declared.due.Due.{Due}
use Rattle.tempo_clock.proofs.Moments.{moment-held}
use Rattle.node_table.specs.declared.number.QueueAddr.{QueueAddr}
use Rattle.seq_state.specs.declared.input.Command.TheVariants.{QueueStatus}
use Rattle.seq_state.specs.declared.log.Reply.{Reply}
use Rattle.seq_state.specs.declared.log.Reply.TheVariants as replies
use Rattle.smf_grammar.specs.Played.{PlayedFile}
use Rattle.seq_state.specs.State.{Client, Queue, with_entry, queues_of}
use Rattle.seq_state.specs.Effect.{with_change, put_queue, queue_of, queue_map, queue_changed, queue_status, public, held_queue, file_queue}
use Rattle.seq_state.specs.Step.{moment_in, named_queue}
use Rattle.seq_state.proofs.Done.{done, tells-queue}
use Rattle.seq_settle.specs.Moments.{queue_in, moment_at, SameMoments}
use Rattle.seq_settle.specs.Order.{AreTimed}
use Rattle.seq_settle.specs.Rekeyed.{OthersSame}
use Rattle.seq_settle.proofs.Elsewhere.{queues_same, but_one, of_others}
use Rattle.seq_settle.proofs.Stores.{get-put_here}
use Rattle.seq_clients.specs.Roster.{Roster, with_client}
use Rattle.seq_commands.specs.declared.sequencer.Sequencer.{Sequencer}
use Rattle.seq_commands.specs.declared.sequencer.Turn.{Turn}
use Rattle.seq_commands.specs.Whole.{Keys, clients_of, state_of, IsStepTakenUnkeyed, refusal_in, step_in}
use Rattle.seq_commands.proofs.ClientsGiven.{accepted-step, gives-kept}
use Rattle.seq_commands.proofs.QueuesAccepted.{accepted-status}

-- ---- a queue that gives other moments

-- all other queues give the same
others-same : (clients : FinMap nat_cmp Client) (actor : ℕ) (queue : QueueAddr) (f : Queue → Queue) → queue.client ≡ actor →
    OthersSame clients (with_entry clients actor (queue_changed (FinMap.get clients actor) queue.queue f)) queue
others-same clients actor queue f own other apart = go (FinMap.get clients actor) refl
  where
    go : (o : Option Client) → FinMap.get clients actor ≡ o → SameMoments clients (with_entry clients actor (queue_changed o queue.queue f)) other
    go None e = queues_same clients actor None (sym (ap queues_of e)) other
    go (Some c) e =
        but_one clients actor queue.queue c (queue_map f (FinMap.get c.queues queue.queue)) e other
        (λ same. apart (same ∙ ap (λ x. let a : QueueAddr = record { client = x; queue = queue.queue } in a) (sym own)))

-- the keys are those by the clients as they were
pub keys-before : (old : Sequencer) (actor : ℕ) (queue : QueueAddr) (f : Queue → Queue) (r : Roster) (agenda : Keys) → queue.client ≡ actor →
    r ≡ with_client old.patchbay.clients actor (queue_changed (FinMap.get (clients_of old) actor) queue.queue f) → AreTimed (clients_of old) old.cells.cells old.order agenda →
    (was : FinMap nat_cmp Client) × OthersSame was r.clients queue × AreTimed was old.cells.cells old.order agenda
keys-before old actor queue f r agenda own e keys =
    (clients_of old, λ other apart accepted due. others-same (clients_of old) actor queue f own other apart accepted due ∙ ap (λ (x : Roster). moment_at x.clients other accepted due) (sym e), keys)

-- ---- a queue that gives the same moments as what was in its place

placed : (n : ℕ) (x : Option Queue) (c : Client) → FinMap.get (put_queue n x c).queues n ≡ x
placed n None c = get-put_here c.queues n None
placed n (Some q) c = get-put_here c.queues n (Some q)

module _ (clients : FinMap nat_cmp Client) (actor n : ℕ) (x : Option Queue) where
  itself : (c : Client) → FinMap.get clients actor ≡ Some c → ((accepted : ℕ) (due : Due) → moment_in (FinMap.get c.queues n) accepted due ≡ moment_in x accepted due) →
      SameMoments clients (with_entry clients actor (Some (put_queue n x c))) (record { client = actor; queue = n })
  itself c here same accepted due =
      ap (λ o. moment_in (FinMap.get (queues_of o) n) accepted due) here ∙ same accepted due
      ∙ ap (λ o. moment_in o accepted due) (sym (placed n x c))
      ∙ ap (λ o. moment_in (FinMap.get (queues_of o) n) accepted due) (sym (get-put_here clients actor (Some (put_queue n x c))))

  pub replaced-same : ((accepted : ℕ) (due : Due) → moment_in (queue_of (FinMap.get clients actor) n) accepted due ≡ moment_in x accepted due) →
      (q : QueueAddr) → SameMoments clients (with_entry clients actor (with_change (FinMap.get clients actor) (put_queue n x))) q
  replaced-same same q = go (FinMap.get clients actor) refl same
    where
      at : (c : Client) → FinMap.get clients actor ≡ Some c → ((accepted : ℕ) (due : Due) → moment_in (FinMap.get c.queues n) accepted due ≡ moment_in x accepted due) → (a b : Bool) →
          eqb q.client actor ≡ a → eqb q.queue n ≡ b → SameMoments clients (with_entry clients actor (Some (put_queue n x c))) q
      at c here same false b t u = of_others clients actor (Some (put_queue n x c)) q (λ m. false≢true (sym t ∙ eq-eqb q.client actor m))
      at c here same true false t u = but_one clients actor n c x here q (λ m. false≢true (sym u ∙ eq-eqb q.queue n (ap (λ (a : QueueAddr). a.queue) m)))
      at c here same true true t u =
          let is : q ≡ record { client = actor; queue = n } =
          ap (λ y. let a : QueueAddr = record { client = y; queue = q.queue } in a) (eqb-true q.client actor t)
          ∙ ap (λ y. let a : QueueAddr = record { client = actor; queue = y } in a) (eqb-true q.queue n u) in
          λ accepted due.
          ap (λ a. moment_at clients a accepted due) is ∙ itself c here same accepted due ∙ ap (λ a. moment_at (with_entry clients actor (Some (put_queue n x c))) a accepted due) (sym is)

      go : (o : Option Client) → FinMap.get clients actor ≡ o → ((accepted : ℕ) (due : Due) → moment_in (queue_of o n) accepted due ≡ moment_in x accepted due) →
          SameMoments clients (with_entry clients actor (with_change o (put_queue n x))) q
      go None e h = queues_same clients actor None (sym (ap queues_of e)) q
      go (Some c) e h = at c e h (eqb q.client actor) (eqb q.queue n) refl refl

-- a queue that others may use too
pub public-same : (o : Option Queue) (accepted : ℕ) (due : Due) → moment_in o accepted due ≡ moment_in (queue_map public o) accepted due
public-same None accepted due = refl
public-same (Some q) accepted due = refl

-- a new queue is held, and gives no moment
pub held-same : (o : Option Queue) (m : Tempos) (accepted : ℕ) (due : Due) → o ≡ None → moment_in o accepted due ≡ moment_in (Some (held_queue m)) accepted due
held-same o m accepted due e = ap (λ x. moment_in x accepted due) e ∙ sym (moment-held m 0 accepted due)

-- ---- what a queue shows

pub status-told : (moment : ℕ) (x : Queue) (k : Clock) (running : Bool) (tick nanos : ℕ) → k ≡ x.clock → running ≡ is_some k.since → tick ≡ tick_at k.map (elapsed_time k moment) → nanos ≡ elapsed_time k moment →
    queue_status moment (Some x) ≡ replies.Queue running tick nanos
status-told moment x k running tick nanos is a b d =
    ap (λ (y : Clock). replies.Queue (is_some y.since) (tick_at y.map (elapsed_time y moment)) (elapsed_time y moment)) (sym is)
    ∙ ap (λ y. replies.Queue y (tick_at k.map (elapsed_time k moment)) (elapsed_time k moment)) (sym a)
    ∙ ap (λ y. replies.Queue running y (elapsed_time k moment)) (sym b) ∙ ap (replies.Queue running tick) (sym d)

pub status-given : (old : Sequencer) (turn : Turn) (q : QueueAddr) (x : Queue) (reply : Reply) → refusal_in old turn (QueueStatus q) ≡ None → queue_in (clients_of old) q ≡ Some x →
    queue_status turn.moment (Some x) ≡ reply → IsStepTakenUnkeyed old old (step_in old turn (QueueStatus q)) reply []
status-given old turn q x reply accepted here told =
    let named : named_queue (clients_of old) turn.actor (Some q) ≡ Some x = (accepted-status old.files (state_of old) turn.moment turn.actor q accepted).1 ∙ here in
    gives-kept old old.patchbay.clients old.patchbay.graph (step_in old turn (QueueStatus q)) reply
    (accepted-step old turn (QueueStatus q) (done (state_of old) (queue_status turn.moment (named_queue (clients_of old) turn.actor (Some q)))) (state_of old) reply accepted
    (tells-queue old.files (state_of old) turn.moment turn.actor q) (ap (λ o. done (state_of old) (queue_status turn.moment o)) named ∙ ap (done (state_of old)) told))
    (λ other accepted due. refl)

-- ---- a queue with the tempo map of a file

-- the map of a file that is there
pub file-queue : (o : Option MidiFile) (wanted : Option PlayedFile) (f : MidiFile) (m : Tempos) → o ≡ Some f → option_map as_played o ≡ wanted → m ≡ record { division = f.division; entries = entries_of f } →
    file_queue wanted ≡ Some (held_queue m)
file-queue o wanted f m there is same = sym (ap file_queue (sym (ap (option_map as_played) there) ∙ is)) ∙ ap (λ x. Some (held_queue x)) (sym same)
