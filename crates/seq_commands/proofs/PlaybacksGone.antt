-- What commands come to that drop what is still to be sent.
use Rattle.std.proofs.Common.{◌≡◌, ℕ, Bool, true, false, not, eqb, ◌&&◌, ◌||◌, List, [], Option, Some, None, refl, sym, ap, subst, ◌∙◌}
use Rattle.std.specs.List.{filter, list_all}
use Rattle.std.specs.Ordering.{nat_cmp}
use Rattle.std.specs.FinMap
use Rattle.std.specs.FinMap.{FinMap}
use Rattle.std.proofs.lemmas.Bool.{eqb-true}
use Rattle.cell_pools.specs.Cells.{Store}
use Rattle.node_table.specs.Addresses.{same_node}
use Rattle.node_table.specs.declared.number.Node.TheVariants.{Port}
use Rattle.node_table.specs.declared.number.QueueAddr.{QueueAddr}
use Rattle.patch_graph.specs.Edges.{touches, touches_client}
use Rattle.patch_graph.specs.declared.edge.Edge.{Edge}
use Rattle.seq_clients.specs.Roster.{Roster, NoneShared, with_client, with_pool}
use Rattle.seq_patchbay.specs.Network.{Network}
use Rattle.seq_state.specs.declared.input.Command.TheVariants.{Close, DeletePort, DeleteQueue, DropOutput}
use Rattle.seq_state.specs.declared.log.Reply.TheVariants.{Done}
use Rattle.seq_state.specs.State.{Client, OwnedPlayback, Queue, State, with_entry, queues_of}
use Rattle.seq_state.specs.Effect.{with_change, put_port, put_queue}
use Rattle.seq_state.specs.Table.{command_row}
use Rattle.seq_state.specs.Step.{Stepped, row_of, loses}
use Rattle.seq_state.proofs.Done.{done, closes, deletes-port, deletes-queue, drops-output, lost-with-client, lost-with-node}
use Rattle.seq_settle.specs.declared.which.Which.TheVariants.{OfPort, OnQueue, All, AllAndOnQueues}
use Rattle.seq_settle.specs.Cells.{PlaybackCell, RankedPlayback, AreCells, pending_in, playbacks}
use Rattle.seq_settle.specs.Drops.{stays}
use Rattle.seq_settle.specs.Moments.{SameMoments, queue_in}
use Rattle.seq_settle.proofs.Elsewhere.{but_one, of_others, off_queue, off_queues, queues_same}
use Rattle.seq_settle.specs.Order.{AreTimed}
use Rattle.seq_settle.specs.declared.order.QueueOrder.{QueueOrder}
use Rattle.seq_settle.proofs.Timed.{timed-stay}
use Rattle.seq_commands.specs.declared.sequencer.Sequencer.{Sequencer}
use Rattle.seq_commands.specs.declared.sequencer.Turn.{Turn}
use Rattle.seq_commands.specs.Whole.{Keys, clients_of, is_usable, state_of, refusal_in, step_in, IsStepTaken}
use Rattle.seq_commands.proofs.Accepted.{unless-none}
use Rattle.seq_commands.proofs.Each.{private-alone}
use Rattle.seq_commands.proofs.EdgesStep.{none-at}

-- ---- whose the cells are that go

queues-goes : (a b d : Bool) → not ((a && false) || (b && d)) ≡ false → (b ≡ true) × (d ≡ true)
queues-goes true true true e = (refl, refl)
queues-goes false true true e = (refl, refl)
queues-goes true true false e = cc
queues-goes false true false e = cc
queues-goes true false d e = cc
queues-goes false false d e = cc

module _ (clients : FinMap nat_cmp Client) (cells : FinMap nat_cmp PlaybackCell) (n actor : ℕ) (are : AreCells cells n) (all : list_all (is_usable clients) (playbacks cells n) ≡ true) where
  -- with a private queue go its owner's
  pub queue-alone : (queue : ℕ) → ((x : Queue) → queue_in clients (record { client = actor; queue = queue }) ≡ Some x → x.shared ≡ false) →
      (q : ℕ) (c : PlaybackCell) → FinMap.get cells q ≡ Some c → stays actor (OnQueue queue) (pending_in c) ≡ false → c.0 ≡ actor
  queue-alone queue private q c here e =
      let on = queues-goes (eqb c.0 actor) (eqb c.1.queue.client actor) (eqb c.1.queue.queue queue) e in
      let at : c.1.queue ≡ record { client = actor; queue = queue } =
      ap (λ x. let a : QueueAddr = record { client = x; queue = c.1.queue.queue } in a) (eqb-true c.1.queue.client actor on.0) ∙ ap (λ x. let a : QueueAddr = record { client = actor; queue = x } in a) (eqb-true c.1.queue.queue queue on.1) in
      private-alone clients cells n (record { client = actor; queue = queue }) are all private q c here at

  -- and with all that a client has its own, also what waits on its queues, where none is shared
  pub close-alone : NoneShared (queues_of (FinMap.get clients actor)) → (q : ℕ) (c : PlaybackCell) → FinMap.get cells q ≡ Some c → stays actor AllAndOnQueues (pending_in c) ≡ false → c.0 ≡ actor
  close-alone none q c here e = go (eqb c.0 actor) refl (eqb c.1.queue.client actor) refl e
    where
      go : (a : Bool) → eqb c.0 actor ≡ a → (b : Bool) → eqb c.1.queue.client actor ≡ b → not ((a && true) || (b && true)) ≡ false → c.0 ≡ actor
      go true t b u f = eqb-true c.0 actor t
      go false t false u f = cc
      go false t true u f =
          let owner : c.1.queue.client ≡ actor = eqb-true c.1.queue.client actor u in
          private-alone clients cells n c.1.queue are all (λ x at. none c.1.queue.queue x (ap (λ m. FinMap.get (queues_of (FinMap.get clients m)) c.1.queue.queue) (sym owner) ∙ at)) q c here refl ∙ owner

not-false : (b : Bool) → not b ≡ false → b ≡ true
not-false true e = refl
not-false false e = cc

-- ---- the same queues after it

ports-kept : (port : ℕ) (o : Option Client) → queues_of (with_change o (put_port port None)) ≡ queues_of o
ports-kept port None = refl
ports-kept port (Some c) = refl

pub port-moments : (clients : FinMap nat_cmp Client) (actor port : ℕ) (q : QueueAddr) → SameMoments clients (with_entry clients actor (with_change (FinMap.get clients actor) (put_port port None))) q
port-moments clients actor port q = queues_same clients actor (with_change (FinMap.get clients actor) (put_port port None)) (ports-kept port (FinMap.get clients actor)) q

pub queue-moments : (clients : FinMap nat_cmp Client) (actor queue : ℕ) (q : QueueAddr) → (q ≡ record { client = actor; queue = queue } → ⊥) → SameMoments clients (with_entry clients actor (with_change (FinMap.get clients actor) (put_queue queue None))) q
queue-moments clients actor queue q other = go (FinMap.get clients actor) refl
  where
    go : (o : Option Client) → FinMap.get clients actor ≡ o → SameMoments clients (with_entry clients actor (with_change o (put_queue queue None))) q
    go None e = queues_same clients actor None (ap queues_of (sym e)) q
    go (Some c) e = but_one clients actor queue c None e q other

-- ---- the rows

-- an accepted DeleteQueue names a queue of the actor's
pub queue-mine : (old : Sequencer) (turn : Turn) (queue : QueueAddr) → refusal_in old turn (DeleteQueue queue) ≡ None → queue_in (clients_of old) queue ≡ queue_in (clients_of old) (record { client = turn.actor; queue = queue.queue })
unfolding command_row
queue-mine old turn queue e =
    ap (λ (m : ℕ). queue_in (clients_of old) (record { client = m; queue = queue.queue }))
    (eqb-true queue.client turn.actor (not-false (eqb queue.client turn.actor) (none-at (row_of old.files (state_of old) turn.moment turn.actor (DeleteQueue queue)).conditions e 1)))

-- a step that changes the clients, the subscriptions and what is still to be sent
pub gone-gives : (old : Sequencer) (p : Network) (cells : Store RankedPlayback) (order : QueueOrder) (agenda : Keys) (step : Stepped) → step ≡ done (state_of (record old { patchbay = p; cells = cells; order = order })) Done →
    AreCells cells.cells old.steps → AreTimed p.clients.clients cells.cells order agenda → IsStepTaken old (record old { patchbay = p; cells = cells; order = order }) agenda step Done []
gone-gives old p cells order agenda step is are timed = record {
  state = sym (ap (λ (x : Stepped). x.state) is);
  reply_is = sym (ap (λ (x : Stepped). x.reply) is);
  sent_is = sym (ap (λ (x : Stepped). x.delivered) is);
  cells = are;
  timed = timed;
  files = refl;
  steps = refl;
}

abbrev pub with_pending : State → List OwnedPlayback → State
with_pending s ps = record s { pending = ps }

module _ (old : Sequencer) (turn : Turn) (cells : Store RankedPlayback) (order : QueueOrder) (agenda : Keys) (are : AreCells cells.cells old.steps) where
  pub drop-gives : refusal_in old turn DropOutput ≡ None → playbacks cells.cells old.steps ≡ filter (stays turn.actor All) (playbacks old.cells.cells old.steps) → AreTimed (clients_of old) cells.cells order agenda →
      IsStepTaken old (record old { cells = cells; order = order }) agenda (step_in old turn DropOutput) Done []
  drop-gives e left timed =
      let s : State = state_of old in
      gone-gives old old.patchbay cells order agenda _
      (drops-output old.files s turn.moment turn.actor ∙ unless-none _ s (done (with_pending s (filter (stays turn.actor All) s.pending)) Done) e ∙ ap (λ x. done (with_pending s x) Done) (sym left)) are timed

  pub port-gives : (port : ℕ) (clients : Roster) (graph : List Edge) → refusal_in old turn (DeletePort port) ≡ None → playbacks cells.cells old.steps ≡ filter (stays turn.actor (OfPort port)) (playbacks old.cells.cells old.steps) →
      AreTimed (clients_of old) cells.cells order agenda → graph ≡ filter (λ e. not (touches (record { client = turn.actor; node = Port port }) e)) old.patchbay.graph →
      clients ≡ with_client old.patchbay.clients turn.actor (with_change (FinMap.get (clients_of old) turn.actor) (put_port port None)) →
      IsStepTaken old (record old { patchbay = record { clients = clients; graph = graph }; cells = cells; order = order }) agenda (step_in old turn (DeletePort port)) Done []
  port-gives port clients graph e left timed edges own =
      let s : State = state_of old in
      let then : FinMap nat_cmp Client = with_entry s.clients turn.actor (with_change (FinMap.get s.clients turn.actor) (put_port port None)) in
      let to : FinMap nat_cmp Client → List Edge → List OwnedPlayback → Stepped = λ m es ps. done (record s { clients = m; edges = es; pending = ps }) Done in
      let same : AreTimed then cells.cells order agenda = timed-stay s.clients then cells.cells order agenda (λ q c at. port-moments s.clients turn.actor port c.1.queue) timed in
      gone-gives old (record { clients = clients; graph = graph }) cells order agenda _
      (deletes-port old.files s turn.moment turn.actor port ∙ unless-none _ s (to then (filter (λ x. not (loses turn.actor (same_node (Port port)) x)) s.edges) (filter (stays turn.actor (OfPort port)) s.pending)) e
      ∙ ap (λ x. to then x (filter (stays turn.actor (OfPort port)) s.pending)) (lost-with-node turn.actor (Port port) s.edges ∙ sym edges)
      ∙ ap (to then graph) (sym left)
      ∙ ap (λ (r : Roster). done (record s { clients = r.clients; pools = r.pools; edges = graph; pending = playbacks cells.cells old.steps }) Done) (sym own))
      are (subst (λ (r : Roster). AreTimed r.clients cells.cells order agenda) (sym own) same)

  pub queue-gives : (queue : QueueAddr) (clients : Roster) (graph : List Edge) → refusal_in old turn (DeleteQueue queue) ≡ None → playbacks cells.cells old.steps ≡ filter (stays turn.actor (OnQueue queue.queue)) (playbacks old.cells.cells old.steps) →
      AreTimed (clients_of old) cells.cells order agenda → ((q : ℕ) (c : PlaybackCell) → FinMap.get cells.cells q ≡ Some c → stays turn.actor (OnQueue queue.queue) (pending_in c) ≡ true) →
      clients ≡ with_client old.patchbay.clients turn.actor (with_change (FinMap.get (clients_of old) turn.actor) (put_queue queue.queue None)) → graph ≡ old.patchbay.graph →
      IsStepTaken old (record old { patchbay = record { clients = clients; graph = graph }; cells = cells; order = order }) agenda (step_in old turn (DeleteQueue queue)) Done []
  queue-gives queue clients graph e left timed on own edges =
      let s : State = state_of old in
      let then : FinMap nat_cmp Client = with_entry s.clients turn.actor (with_change (FinMap.get s.clients turn.actor) (put_queue queue.queue None)) in
      let to : FinMap nat_cmp Client → List OwnedPlayback → Stepped = λ m ps. done (record s { clients = m; pending = ps }) Done in
      let same : AreTimed then cells.cells order agenda = timed-stay s.clients then cells.cells order agenda (λ q c at. queue-moments s.clients turn.actor queue.queue c.1.queue (off_queue turn.actor queue.queue (pending_in c) (on q c at))) timed in
      gone-gives old (record { clients = clients; graph = graph }) cells order agenda _
      (deletes-queue old.files s turn.moment turn.actor queue ∙ unless-none _ s (to then (filter (stays turn.actor (OnQueue queue.queue)) s.pending)) e
      ∙ ap (to then) (sym left)
      ∙ ap (λ (r : Roster). done (record s { clients = r.clients; pools = r.pools; pending = playbacks cells.cells old.steps }) Done) (sym own)
      ∙ ap (λ es. done (record s { clients = clients.clients; pools = clients.pools; edges = es; pending = playbacks cells.cells old.steps }) Done) (sym edges))
      are (subst (λ (r : Roster). AreTimed r.clients cells.cells order agenda) (sym own) same)

  pub close-gives : (clients : Roster) (graph : List Edge) → refusal_in old turn Close ≡ None → playbacks cells.cells old.steps ≡ filter (stays turn.actor AllAndOnQueues) (playbacks old.cells.cells old.steps) →
      AreTimed (clients_of old) cells.cells order agenda → ((q : ℕ) (c : PlaybackCell) → FinMap.get cells.cells q ≡ Some c → stays turn.actor AllAndOnQueues (pending_in c) ≡ true) →
      graph ≡ filter (λ e. not (touches_client turn.actor e)) old.patchbay.graph → clients ≡ with_pool (with_client old.patchbay.clients turn.actor None) turn.actor None →
      IsStepTaken old (record old { patchbay = record { clients = clients; graph = graph }; cells = cells; order = order }) agenda (step_in old turn Close) Done []
  close-gives clients graph e left timed on edges own =
      let s : State = state_of old in
      let then : FinMap nat_cmp Client = with_entry s.clients turn.actor None in
      let to : List Edge → List OwnedPlayback → Stepped = λ es ps. done (record { clients = then; pools = with_entry s.pools turn.actor None; edges = es; pending = ps }) Done in
      let same : AreTimed then cells.cells order agenda = timed-stay s.clients then cells.cells order agenda (λ q c at. of_others s.clients turn.actor None c.1.queue (off_queues turn.actor (pending_in c) (on q c at))) timed in
      gone-gives old (record { clients = clients; graph = graph }) cells order agenda _
      (closes old.files s turn.moment turn.actor ∙ unless-none _ s (to (filter (λ x. not (loses turn.actor (λ n. true) x)) s.edges) (filter (stays turn.actor AllAndOnQueues) s.pending)) e
      ∙ ap (λ x. to x (filter (stays turn.actor AllAndOnQueues) s.pending)) (lost-with-client turn.actor s.edges ∙ sym edges)
      ∙ ap (to graph) (sym left)
      ∙ ap (λ (r : Roster). done (record { clients = r.clients; pools = r.pools; edges = graph; pending = playbacks cells.cells old.steps }) Done) (sym own))
      are (subst (λ (r : Roster). AreTimed r.clients cells.cells order agenda) (sym own) same)
