-- What a sequencer gives whose clients changed, and nothing else but pools and subscriptions.
use Rattle.std.proofs.Common.{◌≡◌, ℕ, not, List, [], Option, Some, None, refl, sym, ap, subst, ◌∙◌}
use Rattle.std.specs.List.{filter}
use Rattle.std.specs.FinMap
use Rattle.cell_pools.specs.Pools.{empty_pool}
use Rattle.node_table.specs.Addresses.{same_node}
use Rattle.node_table.specs.declared.number.Node.TheVariants.{Filter}
use Rattle.node_table.specs.declared.number.QueueAddr.{QueueAddr}
use Rattle.patch_graph.specs.Edges.{touches}
use Rattle.patch_graph.specs.declared.edge.Edge.{Edge}
use Rattle.seq_state.specs.declared.input.Command.{Command}
use Rattle.seq_state.specs.declared.input.Command.TheVariants.{Open, DeleteFilter}
use Rattle.seq_state.specs.declared.log.Reply.{Reply}
use Rattle.seq_state.specs.declared.log.Reply.TheVariants.{Done}
use Rattle.seq_state.specs.State.{PortInfo, FilterInfo, Client, State, with_entry, queues_of}
use Rattle.seq_state.specs.Effect.{with_change, put_port, put_filter, new_client}
use Rattle.seq_state.specs.Step.{Stepped, loses, unless}
use Rattle.seq_state.proofs.Done.{done, opens, deletes-filter, lost-with-node}
use Rattle.seq_settle.specs.Moments.{moment_at, SameMoments}
use Rattle.seq_settle.specs.Cells.{seen_state, AreCells}
use Rattle.seq_settle.specs.Order.{AreTimed}
use Rattle.seq_settle.specs.declared.order.QueueOrder.{QueueOrder}
use Rattle.seq_settle.proofs.Timed.{timed-stay}
use Rattle.seq_settle.proofs.Elsewhere.{queues_same}
use Rattle.seq_clients.specs.Roster.{Roster, with_client, with_pool}
use Rattle.seq_commands.specs.declared.sequencer.Sequencer.{Sequencer}
use Rattle.seq_commands.specs.declared.sequencer.Turn.{Turn}
use Rattle.seq_commands.specs.Whole.{Keys, clients_of, state_of, IsStepTaken, IsStepTakenUnkeyed, refusal_in, step_in}
use Rattle.seq_commands.proofs.Accepted.{unless-none}
use Rattle.seq_commands.proofs.ClientsAccepted.{accepted-open}

-- a sequencer with these clients and subscriptions
abbrev pub with_roster : Sequencer → Roster → List Edge → Sequencer
with_roster s r edges = record s { patchbay = record { clients = r; graph = edges } }

-- and with this order of what waits
abbrev pub ordered_with : Sequencer → Roster → List Edge → QueueOrder → Sequencer
ordered_with s r edges order = record (with_roster s r edges) { order = order }

-- its state
abbrev pub state_with : Sequencer → Roster → List Edge → State
state_with s r edges = seen_state r.clients r.pools edges s.cells.cells s.steps

pub gives : (old : Sequencer) (r : Roster) (edges : List Edge) (order : QueueOrder) (agenda : Keys) (step : Stepped) (reply : Reply) → step ≡ done (state_with old r edges) reply →
    AreCells old.cells.cells old.steps → AreTimed r.clients old.cells.cells order agenda → IsStepTaken old (ordered_with old r edges order) agenda step reply []
gives old r edges order agenda step reply is are timed = record {
  state = ap (λ (x : Stepped). x.state) (sym is);
  reply_is = ap (λ (x : Stepped). x.reply) (sym is);
  sent_is = ap (λ (x : Stepped). x.delivered) (sym is);
  cells = are;
  timed = timed;
  files = refl;
  steps = refl;
}

-- where all queues give the same moments, the agenda stays
pub gives-kept : (old : Sequencer) (r : Roster) (edges : List Edge) (step : Stepped) (reply : Reply) → step ≡ done (state_with old r edges) reply →
    ((q : QueueAddr) → SameMoments (clients_of old) r.clients q) → IsStepTakenUnkeyed old (with_roster old r edges) step reply []
gives-kept old r edges step reply is same agenda now whole =
    gives old r edges old.order agenda step reply is whole.cells (timed-stay (clients_of old) r.clients old.cells.cells old.order agenda (λ q c e. same c.1.queue) whole.timed)

-- the step of an accepted command, where the sequencer has what the command comes to
pub accepted-step : (old : Sequencer) (turn : Turn) (command : Command) (effect : Stepped) (s : State) (reply : Reply) → refusal_in old turn command ≡ None →
    step_in old turn command ≡ unless (refusal_in old turn command) (state_of old) effect → effect ≡ done s reply → step_in old turn command ≡ done s reply
accepted-step old turn command effect s reply accepted is e = is ∙ unless-none (refusal_in old turn command) (state_of old) effect accepted ∙ e

-- ---- the clients are others

module _ (old : Sequencer) (turn : Turn) (command : Command) (made r : Roster) (edges : List Edge) (accepted : refusal_in old turn command ≡ None)
    (is : step_in old turn command ≡ unless (refusal_in old turn command) (state_of old) (done (state_with old made edges) Done)) (e : r ≡ made) where
  roster-step : step_in old turn command ≡ done (state_with old r edges) Done
  roster-step =
      accepted-step old turn command (done (state_with old made edges) Done) (state_with old r edges) Done accepted is
      (ap (λ x. done (state_with old x edges) Done) (sym e))

  pub roster-given : (order : QueueOrder) (agenda : Keys) → AreCells old.cells.cells old.steps → AreTimed r.clients old.cells.cells order agenda → IsStepTaken old (ordered_with old r edges order) agenda (step_in old turn command) Done []
  roster-given order agenda are timed = gives old r edges order agenda (step_in old turn command) Done roster-step are timed

  -- their queues give the same moments
  pub roster-kept : ((q : QueueAddr) → SameMoments (clients_of old) made.clients q) → IsStepTakenUnkeyed old (with_roster old r edges) (step_in old turn command) Done []
  roster-kept same =
      gives-kept old r edges (step_in old turn command) Done roster-step
      (λ q accepted due. same q accepted due ∙ ap (λ (x : Roster). moment_at x.clients q accepted due) (sym e))

-- ---- one client is another

-- what a command comes to, where the subscriptions are as they were
over-edges : (old : Sequencer) (turn : Turn) (command : Command) (made : Roster) (edges : List Edge) →
    step_in old turn command ≡ unless (refusal_in old turn command) (state_of old) (done (state_with old made old.patchbay.graph) Done) → edges ≡ old.patchbay.graph →
    step_in old turn command ≡ unless (refusal_in old turn command) (state_of old) (done (state_with old made edges) Done)
over-edges old turn command made edges is same = subst (λ es. step_in old turn command ≡ unless (refusal_in old turn command) (state_of old) (done (state_with old made es) Done)) (sym same) is

-- the actor has this, and all else is as it was
abbrev pub has_client : Sequencer → ℕ → Option Client → Stepped
has_client s actor c = done (record (state_of s) { clients = with_entry (clients_of s) actor c }) Done

module _ (old : Sequencer) (turn : Turn) (command : Command) (c : Option Client) (r : Roster) (edges : List Edge) (accepted : refusal_in old turn command ≡ None)
    (is : step_in old turn command ≡ unless (refusal_in old turn command) (state_of old) (has_client old turn.actor c)) (e : r ≡ with_client old.patchbay.clients turn.actor c) (same_edges : edges ≡ old.patchbay.graph) where
  pub client-given : (order : QueueOrder) (agenda : Keys) → AreCells old.cells.cells old.steps → AreTimed r.clients old.cells.cells order agenda →
      IsStepTaken old (ordered_with old r edges order) agenda (step_in old turn command) Done []
  client-given order agenda are timed = roster-given old turn command (with_client old.patchbay.clients turn.actor c) r edges accepted (over-edges old turn command (with_client old.patchbay.clients turn.actor c) edges is same_edges) e order agenda are timed

  -- its queues give the same moments
  pub client-kept : ((q : QueueAddr) → SameMoments (clients_of old) (with_entry (clients_of old) turn.actor c) q) → IsStepTakenUnkeyed old (with_roster old r edges) (step_in old turn command) Done []
  client-kept same = roster-kept old turn command (with_client old.patchbay.clients turn.actor c) r edges accepted (over-edges old turn command (with_client old.patchbay.clients turn.actor c) edges is same_edges) e same

  -- its queues are as they were
  pub nodes-kept : queues_of c ≡ queues_of (FinMap.get (clients_of old) turn.actor) → IsStepTakenUnkeyed old (with_roster old r edges) (step_in old turn command) Done []
  nodes-kept queues = client-kept (queues_same (clients_of old) turn.actor c queues)

-- ---- whose queues are as they were

queues-changed : (f : Client → Client) → ((c : Client) → (f c).queues ≡ c.queues) → (o : Option Client) → queues_of (with_change o f) ≡ queues_of o
queues-changed f same None = refl
queues-changed f same (Some c) = same c

pub queues-port : (n : ℕ) (p : Option PortInfo) (o : Option Client) → queues_of (with_change o (put_port n p)) ≡ queues_of o
queues-port n p o = queues-changed (put_port n p) (go p) o
  where
    go : (p : Option PortInfo) (c : Client) → (put_port n p c).queues ≡ c.queues
    go None c = refl
    go (Some x) c = refl

pub queues-filter : (n : ℕ) (p : Option FilterInfo) (o : Option Client) → queues_of (with_change o (put_filter n p)) ≡ queues_of o
queues-filter n p o = queues-changed (put_filter n p) (go p) o
  where
    go : (p : Option FilterInfo) (c : Client) → (put_filter n p c).queues ≡ c.queues
    go None c = refl
    go (Some x) c = refl

-- ---- a client is opened

pub opened-kept : (old : Sequencer) (turn : Turn) (name : List ℕ) (in_size out_size : ℕ) (r : Roster) (edges : List Edge) → refusal_in old turn (Open name in_size out_size) ≡ None →
    r ≡ with_pool (with_client old.patchbay.clients turn.actor (Some (new_client name in_size out_size))) turn.actor (Some (empty_pool in_size)) → edges ≡ old.patchbay.graph →
    IsStepTakenUnkeyed old (with_roster old r edges) (step_in old turn (Open name in_size out_size)) Done []
opened-kept old turn name in_size out_size r edges accepted e same_edges =
    let c : Option Client = Some (new_client name in_size out_size) in
    let made : Roster = with_pool (with_client old.patchbay.clients turn.actor c) turn.actor (Some (empty_pool in_size)) in
    let fresh : FinMap.get (clients_of old) turn.actor ≡ None = (accepted-open old.files (state_of old) turn.moment turn.actor name in_size out_size accepted).0 in
    roster-kept old turn (Open name in_size out_size) made r edges accepted
    (over-edges old turn (Open name in_size out_size) made edges (opens old.files (state_of old) turn.moment turn.actor name in_size out_size) same_edges) e
    (queues_same (clients_of old) turn.actor c (sym (ap queues_of fresh)))

-- ---- a filter goes with its subscriptions

pub filter-gone : (old : Sequencer) (turn : Turn) (n : ℕ) (r : Roster) (edges : List Edge) → refusal_in old turn (DeleteFilter n) ≡ None →
    r ≡ with_client old.patchbay.clients turn.actor (with_change (FinMap.get (clients_of old) turn.actor) (put_filter n None)) →
    edges ≡ filter (λ e. not (touches (record { client = turn.actor; node = Filter n }) e)) old.patchbay.graph →
    IsStepTakenUnkeyed old (with_roster old r edges) (step_in old turn (DeleteFilter n)) Done []
filter-gone old turn n r edges accepted e gone =
    let its : Option Client = FinMap.get (clients_of old) turn.actor in
    let made : Roster = with_client old.patchbay.clients turn.actor (with_change its (put_filter n None)) in
    let left : filter (λ e. not (loses turn.actor (same_node (Filter n)) e)) old.patchbay.graph ≡ edges = lost-with-node turn.actor (Filter n) old.patchbay.graph ∙ sym gone in
    roster-kept old turn (DeleteFilter n) made r edges accepted
    (deletes-filter old.files (state_of old) turn.moment turn.actor n ∙ ap (λ x. unless (refusal_in old turn (DeleteFilter n)) (state_of old) (done (state_with old made x) Done)) left) e
    (queues_same (clients_of old) turn.actor (with_change its (put_filter n None)) (queues-filter n None its))
