-- What each command comes to where it is not refused, field by field.
use Rattle.std.proofs.Common.{◌≡◌, ℕ, Bool, true, false, not, eqb, ◌&&◌, ◌||◌, List, [], ◌∷◌, ◌++◌, map, length, Option, Some, None, refl, ap, ◌∙◌, append-nil, arith}
use Rattle.std.specs.Prelude.{◌==◌}
use Rattle.std.proofs.lemmas.Bool.Decides.{nat_tests}
use Rattle.std.proofs.lemmas.List.Elements.{filter_agree}
use Rattle.patch_graph.specs.Edges.{touches, touches_client}
use Rattle.std.specs.List.{filter}
use Rattle.std.specs.Ordering.{nat_cmp}
use Rattle.std.specs.FinMap
use Rattle.std.specs.FinMap.{FinMap}
use Rattle.tempo_clock.specs.Clocks.{running_from_zero, at_rest, running_on, with_tempo}
use Rattle.route_filter.specs.declared.rule_args.RuleArgs.{RuleArgs}
use Rattle.cell_pools.specs.Pools.{empty_pool}
use Rattle.node_table.specs.Addresses.{same_node}
use Rattle.node_table.specs.declared.caps.Caps.{Caps}
use Rattle.node_table.specs.declared.number.Node.{Node}
use Rattle.node_table.specs.declared.number.Node.TheVariants.{Port, Filter}
use Rattle.node_table.specs.declared.number.QueueAddr.{QueueAddr}
use Rattle.patch_graph.specs.declared.edge.Edge.{Edge}
use Rattle.seq_state.specs.declared.input.Command.{Command}
use Rattle.seq_state.specs.declared.input.Command.TheVariants.{Open, Close, CreatePort, DeletePort, CreateFilter, SetFilter, DeleteFilter, Bytes, Send, CreateQueue, CreateQueueFrom, DeleteQueue, Start, Stop, Continue, Tempo, QueueStatus, Share, Schedule, Play, DropOutput}
use Rattle.seq_state.specs.declared.input.DueAt.{DueAt}
use Rattle.seq_state.specs.declared.log.Delivery.{Delivery}
use Rattle.seq_state.specs.declared.log.Reply.{Reply}
use Rattle.seq_state.specs.declared.log.Reply.TheVariants.{Done, Messages}
use Rattle.smf_grammar.specs.Played.{PlayedFile}
use Rattle.seq_state.specs.State.{Client, ClientPool, DueMessage, Playback, OwnedPlayback, State, with_entry}
use Rattle.seq_state.specs.Effect.{Effect, done_with, with_change, port_of, filter_of, put_port, put_filter, put_queue, new_port, new_filter, new_client, filter_ruled, port_fed, queue_changed, with_clock, public, held_queue, one_tempo, file_queue, file_at, file_events, scheduled_events, queue_status, playback}
use Rattle.seq_state.specs.Table.{completed_messages, from_port, command_row}
use Rattle.seq_state.specs.Step.{Stepped, loses, drops, pending_of, is_left, with_effect, send_copies, with_copies, with_reply, named_queue, view_of, unless, refusal_of, command_step}
use Rattle.seq_state.proofs.Effects.{put-same, none-lost, none-dropped}

-- the state and the reply, where nothing is sent
abbrev pub done : State → Reply → Stepped
done s reply = record { state = s; delivered = []; reply = reply }

module _ (s : State) (actor : ℕ) where
  abbrev its : Option Client
  its = FinMap.get s.clients actor

  abbrev from : FinMap nat_cmp Client → FinMap nat_cmp ClientPool → List Edge → List OwnedPlayback → State
  from clients pools edges pending = record { clients = clients; pools = pools; edges = edges; pending = pending }

  -- the actor has this, and nothing else changes
  own-client : (q : Option QueueAddr) (c : Option Client) → with_effect s actor q (done_with c) ≡ record s { clients = with_entry s.clients actor c }
  own-client q c =
      let clients : FinMap nat_cmp Client = with_entry s.clients actor c in
      ap (λ x. from clients x (filter (λ e. not (loses actor (λ _. false) e)) s.edges) (filter (λ p. not (drops actor (done_with c) p)) s.pending ++ [])) (put-same s.pools actor)
      ∙ ap (λ x. from clients s.pools x (filter (λ p. not (drops actor (done_with c) p)) s.pending ++ [])) (none-lost actor s.edges)
      ∙ ap (λ x. from clients s.pools s.edges x) (append-nil (filter (λ p. not (drops actor (done_with c) p)) s.pending) ∙ none-dropped actor c s.pending)

  -- nothing changes
  own-same : (q : Option QueueAddr) → with_effect s actor q (done_with its) ≡ s
  own-same q = own-client q its ∙ ap (λ x. from x s.pools s.edges s.pending) (put-same s.clients actor)

  -- what goes with a node or a queue
  own-gone : (q : Option QueueAddr) (effect : Effect) → effect.added ≡ [] → ((es : List Edge) → effect.edges es ≡ es) →
      with_effect s actor q effect ≡ from (with_entry s.clients actor effect.client) (with_entry s.pools actor (effect.pool (FinMap.get s.pools actor))) (filter (λ e. not (loses actor effect.gone e)) s.edges) (filter (λ p. not (drops actor effect p)) s.pending)
  own-gone q effect none same =
      let clients : FinMap nat_cmp Client = with_entry s.clients actor effect.client in
      let pools : FinMap nat_cmp ClientPool = with_entry s.pools actor (effect.pool (FinMap.get s.pools actor)) in
      let left : List OwnedPlayback = filter (λ p. not (drops actor effect p)) s.pending in
      ap (λ x. from clients pools x (left ++ filter is_left (map (pending_of actor q) effect.added))) (same (filter (λ e. not (loses actor effect.gone e)) s.edges))
      ∙ ap (λ x. from clients pools (filter (λ e. not (loses actor effect.gone e)) s.edges) (left ++ filter is_left (map (pending_of actor q) x))) none
      ∙ ap (λ x. from clients pools (filter (λ e. not (loses actor effect.gone e)) s.edges) x) (append-nil left)

  -- what is sent besides
  own-added : (q : Option QueueAddr) (c : Option Client) (p : Playback) → with_effect s actor q (record (done_with c) { added = p ∷ [] }) ≡
      record s { clients = with_entry s.clients actor c; pending = s.pending ++ filter is_left (pending_of actor q p ∷ []) }
  own-added q c p =
      let clients : FinMap nat_cmp Client = with_entry s.clients actor c in
      let new : List OwnedPlayback = filter is_left (pending_of actor q p ∷ []) in
      ap (λ x. from clients x (filter (λ e. not (loses actor (λ _. false) e)) s.edges) (filter (λ p. not (drops actor (done_with c) p)) s.pending ++ new)) (put-same s.pools actor)
      ∙ ap (λ x. from clients s.pools x (filter (λ p. not (drops actor (done_with c) p)) s.pending ++ new)) (none-lost actor s.edges)
      ∙ ap (λ x. from clients s.pools s.edges (x ++ new)) (none-dropped actor c s.pending)

module _ (files : List PlayedFile) (s : State) (moment actor : ℕ) where
  abbrev client : Option Client
  client = FinMap.get s.clients actor

  -- the step of a command, where this is what it does
  abbrev steps_to : Command → Stepped → Type 0
  steps_to command effect = command_step files s moment actor command ≡ unless (refusal_of files s moment actor command) s effect

  -- the actor has this
  abbrev has : Option Client → Stepped
  has c = done (record s { clients = with_entry s.clients actor c }) Done

  abbrev after : Command → State → Stepped
  after command t = unless (refusal_of files s moment actor command) s (done t Done)

  pub creates-port : (port : ℕ) (name : List ℕ) (caps : Caps) → steps_to (CreatePort port name caps) (has (with_change client (put_port port (Some (new_port name caps)))))
  unfolding command_row
  creates-port port name caps = ap (after (CreatePort port name caps)) (own-client s actor None (with_change client (put_port port (Some (new_port name caps)))))

  pub creates-filter : (n : ℕ) (caps : Caps) (rule : RuleArgs) → steps_to (CreateFilter n caps rule) (has (with_change client (put_filter n (Some (new_filter caps rule)))))
  unfolding command_row
  creates-filter n caps rule = ap (after (CreateFilter n caps rule)) (own-client s actor None (with_change client (put_filter n (Some (new_filter caps rule)))))

  pub sets-filter : (n : ℕ) (rule : RuleArgs) → steps_to (SetFilter n rule) (has (with_change client (put_filter n (filter_ruled rule (filter_of client n)))))
  unfolding command_row
  sets-filter n rule = ap (after (SetFilter n rule)) (own-client s actor None (with_change client (put_filter n (filter_ruled rule (filter_of client n)))))

  pub creates-queue : (n ppq tempo : ℕ) → steps_to (CreateQueue n ppq tempo) (has (with_change client (put_queue n (Some (held_queue (one_tempo ppq tempo))))))
  unfolding command_row
  creates-queue n ppq tempo = ap (after (CreateQueue n ppq tempo)) (own-client s actor None (with_change client (put_queue n (Some (held_queue (one_tempo ppq tempo))))))

  pub creates-queue-from : (n file : ℕ) → steps_to (CreateQueueFrom n file) (has (with_change client (put_queue n (file_queue (file_at files file)))))
  unfolding command_row
  creates-queue-from n file = ap (after (CreateQueueFrom n file)) (own-client s actor None (with_change client (put_queue n (file_queue (file_at files file)))))

  pub starts : (q : QueueAddr) → steps_to (Start q) (has (queue_changed client q.queue (with_clock (λ c. running_from_zero c moment))))
  unfolding command_row
  starts q = ap (after (Start q)) (own-client s actor (Some q) (queue_changed client q.queue (with_clock (λ c. running_from_zero c moment))))

  pub stops : (q : QueueAddr) → steps_to (Stop q) (has (queue_changed client q.queue (with_clock (λ c. at_rest c moment))))
  unfolding command_row
  stops q = ap (after (Stop q)) (own-client s actor (Some q) (queue_changed client q.queue (with_clock (λ c. at_rest c moment))))

  pub continues : (q : QueueAddr) → steps_to (Continue q) (has (queue_changed client q.queue (with_clock (λ c. running_on c moment))))
  unfolding command_row
  continues q = ap (after (Continue q)) (own-client s actor (Some q) (queue_changed client q.queue (with_clock (λ c. running_on c moment))))

  pub sets-tempo : (q : QueueAddr) (tempo : ℕ) → steps_to (Tempo q tempo) (has (queue_changed client q.queue (with_clock (λ c. with_tempo c moment tempo))))
  unfolding command_row
  sets-tempo q tempo = ap (after (Tempo q tempo)) (own-client s actor (Some q) (queue_changed client q.queue (with_clock (λ c. with_tempo c moment tempo))))

  pub shares : (q : QueueAddr) → steps_to (Share q) (has (queue_changed client q.queue public))
  unfolding command_row
  shares q = ap (after (Share q)) (own-client s actor (Some q) (queue_changed client q.queue public))

  -- what the actor loses with its input pool, its nodes, its playbacks and its queues
  abbrev left_by : Option QueueAddr → Effect → State
  left_by q effect =
      record {
        clients = with_entry s.clients actor effect.client;
        pools = with_entry s.pools actor (effect.pool (FinMap.get s.pools actor));
        edges = filter (λ e. not (loses actor effect.gone e)) s.edges;
        pending = filter (λ p. not (drops actor effect p)) s.pending;
      }

  pub opens : (name : List ℕ) (in_size out_size : ℕ) → steps_to (Open name in_size out_size)
      (done (record s { clients = with_entry s.clients actor (Some (new_client name in_size out_size)); pools = with_entry s.pools actor (Some (empty_pool in_size)) }) Done)
  unfolding command_row
  opens name in_size out_size =
      let c : Option Client = Some (new_client name in_size out_size) in
      let clients : FinMap nat_cmp Client = with_entry s.clients actor c in
      let pools : FinMap nat_cmp ClientPool = with_entry s.pools actor (Some (empty_pool in_size)) in
      ap (after (Open name in_size out_size))
      (ap (λ x. let t : State = record { clients = clients; pools = pools; edges = x; pending = filter (λ p. not (drops actor (done_with c) p)) s.pending ++ [] } in t) (none-lost actor s.edges)
      ∙ ap (λ x. let t : State = record { clients = clients; pools = pools; edges = s.edges; pending = x } in t) (append-nil (filter (λ p. not (drops actor (done_with c) p)) s.pending) ∙ none-dropped actor c s.pending))

  abbrev pub closing : Effect
  closing = record (done_with None) { pool = λ p. None; gone = λ n. true; dropped = λ p. true; queue_gone = λ n. true }

  pub closes : steps_to Close (done (left_by None closing) Done)
  unfolding command_row
  closes = ap (after Close) (own-gone s actor None closing refl (λ es. refl))

  abbrev pub deleting-port : ℕ → Effect
  deleting-port port = record (done_with (with_change client (put_port port None))) { gone = same_node (Port port); dropped = λ p. p.port == port }

  pub deletes-port : (port : ℕ) → steps_to (DeletePort port) (done (record (left_by None (deleting-port port)) { pools = s.pools }) Done)
  unfolding command_row
  deletes-port port =
      ap (after (DeletePort port))
      (own-gone s actor None (deleting-port port) refl (λ es. refl) ∙ ap (λ x. record (left_by None (deleting-port port)) { pools = x }) (put-same s.pools actor))

  pub deletes-filter : (n : ℕ) → steps_to (DeleteFilter n)
      (done (record s { clients = with_entry s.clients actor (with_change client (put_filter n None)); edges = filter (λ e. not (loses actor (same_node (Filter n)) e)) s.edges }) Done)
  unfolding command_row
  deletes-filter n =
      let c : Option Client = with_change client (put_filter n None) in
      let effect : Effect = record (done_with c) { gone = same_node (Filter n) } in
      let edges : List Edge = filter (λ e. not (loses actor (same_node (Filter n)) e)) s.edges in
      ap (after (DeleteFilter n))
      (own-gone s actor None effect refl (λ es. refl) ∙ ap (λ x. record (left_by None effect) { pools = x }) (put-same s.pools actor)
      ∙ ap (λ x. let t : State = record { clients = with_entry s.clients actor c; pools = s.pools; edges = edges; pending = x } in t) (none-dropped actor c s.pending))

  abbrev pub deleting-queue : QueueAddr → Effect
  deleting-queue q = record (done_with (with_change client (put_queue q.queue None))) { queue_gone = λ n. n == q.queue }

  pub deletes-queue : (q : QueueAddr) → steps_to (DeleteQueue q)
      (done (record s { clients = with_entry s.clients actor (with_change client (put_queue q.queue None)); pending = filter (λ p. not (drops actor (deleting-queue q) p)) s.pending }) Done)
  unfolding command_row
  deletes-queue q =
      let effect : Effect = deleting-queue q in
      ap (after (DeleteQueue q))
      (own-gone s actor (Some q) effect refl (λ es. refl) ∙ ap (λ x. record (left_by (Some q) effect) { pools = x }) (put-same s.pools actor)
      ∙ ap (λ x. let t : State = record { clients = with_entry s.clients actor effect.client; pools = s.pools; edges = x; pending = filter (λ p. not (drops actor effect p)) s.pending } in t) (none-lost actor s.edges))

  abbrev pub dropping : Effect
  dropping = record (done_with client) { dropped = λ p. true }

  pub drops-output : steps_to DropOutput (done (record s { pending = filter (λ p. not (drops actor dropping p)) s.pending }) Done)
  unfolding command_row
  drops-output =
      let left : List OwnedPlayback = filter (λ p. not (drops actor dropping p)) s.pending in
      ap (after DropOutput)
      (own-gone s actor None dropping refl (λ es. refl) ∙ ap (λ x. record (left_by None dropping) { pools = x }) (put-same s.pools actor)
      ∙ ap (λ x. let t : State = record { clients = with_entry s.clients actor client; pools = s.pools; edges = x; pending = left } in t) (none-lost actor s.edges)
      ∙ ap (λ x. let t : State = record { clients = x; pools = s.pools; edges = s.edges; pending = left } in t) (put-same s.clients actor))

  pub tells-queue : (q : QueueAddr) → steps_to (QueueStatus q) (done s (queue_status moment (named_queue s.clients actor (Some q))))
  unfolding command_row
  tells-queue q =
      let reply : Reply = queue_status moment (named_queue s.clients actor (Some q)) in
      ap (λ t. unless (refusal_of files s moment actor (QueueStatus q)) s (done t reply)) (own-same s actor (Some q))

  -- ---- what sends

  -- a state from which these copies were sent
  abbrev sends_copies : State → List Delivery → Reply → Stepped
  sends_copies t ds reply = with_reply (with_copies t ds) reply

  pub feeds : (port : ℕ) (bytes : List ℕ) → steps_to (Bytes port bytes)
      (sends_copies (record s { clients = with_entry s.clients actor (with_change client (put_port port (port_fed bytes (port_of client port)))) })
      (send_copies s moment actor (map (from_port port) (completed_messages (view_of files s moment actor (Bytes port bytes)) port bytes)))
      (Messages (length (completed_messages (view_of files s moment actor (Bytes port bytes)) port bytes))))
  unfolding command_row
  feeds port bytes =
      let ms : List (List ℕ) = completed_messages (view_of files s moment actor (Bytes port bytes)) port bytes in
      ap (λ t. unless (refusal_of files s moment actor (Bytes port bytes)) s (sends_copies t (send_copies s moment actor (map (from_port port) ms)) (Messages (length ms))))
      (own-client s actor None (with_change client (put_port port (port_fed bytes (port_of client port)))))

  pub sends : (port : ℕ) (message : List ℕ) → steps_to (Send port message) (sends_copies s (send_copies s moment actor (from_port port message ∷ [])) Done)
  unfolding command_row
  sends port message =
      ap (λ t. unless (refusal_of files s moment actor (Send port message)) s (sends_copies t (send_copies s moment actor (from_port port message ∷ [])) Done)) (own-same s actor None)

  -- ---- what is sent later

  abbrev adds : QueueAddr → ℕ → List DueMessage → State
  adds q port events = record s { pending = s.pending ++ filter is_left (pending_of actor (Some q) (playback port moment events) ∷ []) }

  added-same : (q : QueueAddr) (port : ℕ) (events : List DueMessage) → with_effect s actor (Some q) (record (done_with client) { added = playback port moment events ∷ [] }) ≡ adds q port events
  added-same q port events =
      own-added s actor (Some q) client (playback port moment events)
      ∙ ap (λ x. let t : State = record { clients = x; pools = s.pools; edges = s.edges; pending = s.pending ++ filter is_left (pending_of actor (Some q) (playback port moment events) ∷ []) } in t) (put-same s.clients actor)

  pub schedules : (q : QueueAddr) (port : ℕ) (due : DueAt) (message : List ℕ) → steps_to (Schedule q port due message)
      (done (adds q port (scheduled_events moment (named_queue s.clients actor (Some q)) due message)) Done)
  unfolding command_row
  schedules q port due message = ap (after (Schedule q port due message)) (added-same q port (scheduled_events moment (named_queue s.clients actor (Some q)) due message))

  pub plays : (q : QueueAddr) (port file : ℕ) → steps_to (Play q port file) (done (adds q port (file_events (file_at files file))) Done)
  unfolding command_row
  plays q port file = ap (after (Play q port file)) (added-same q port (file_events (file_at files file)))

-- ---- which edges go

number-turned : (m n : ℕ) → eqb m n ≡ eqb n m
number-turned m n = grind (arith, nat_tests)

either-end : (a b c d x y : Bool) → a ≡ c → b ≡ d → (a && x || b && y) ≡ (c && x || d && y)
either-end a b c d x y e f = ap (λ z. z && x || b && y) e ∙ ap (λ z. c && x || z && y) f

-- with a client all edges that touch it
pub lost-with-client : (actor : ℕ) (es : List Edge) → filter (λ e. not (loses actor (λ n. true) e)) es ≡ filter (λ e. not (touches_client actor e)) es
lost-with-client actor es = filter_agree (λ e. not (loses actor (λ n. true) e)) (λ e. not (touches_client actor e)) (λ e. ap not (one e)) es
  where
    one : (e : Edge) → loses actor (λ n. true) e ≡ touches_client actor e
    one e = grind arith

-- with a node those that touch it
pub lost-with-node : (actor : ℕ) (n : Node) (es : List Edge) → filter (λ e. not (loses actor (same_node n) e)) es ≡ filter (λ e. not (touches (record { client = actor; node = n }) e)) es
lost-with-node actor n es = filter_agree (λ e. not (loses actor (same_node n) e)) (λ e. not (touches (record { client = actor; node = n }) e)) (λ e. ap not (one e)) es
  where
    one : (e : Edge) → loses actor (same_node n) e ≡ touches (record { client = actor; node = n }) e
    one e =
        either-end (eqb e.source.client actor) (eqb e.target.client actor) (eqb actor e.source.client) (eqb actor e.target.client) (same_node n e.source.node) (same_node n e.target.node)
        (number-turned e.source.client actor) (number-turned e.target.client actor)
