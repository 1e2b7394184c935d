-- What each command changes, and what it leaves.
use Rattle.std.proofs.Common.{◌≡◌, ℕ, Bool, true, false, not, cond, eqb, ◌&&◌, ◌||◌, List, [], ◌++◌, map, Option, Some, None, refl, sym, ap, subst, ◌∙◌, arith, append-nil}
use Rattle.std.specs.Prelude.{take, drop}
use Rattle.std.specs.List.{filter, list_all}
use Rattle.std.specs.FinMap
use Rattle.std.proofs.lemmas.Bool.{false≢true, eq-eqb}
use Rattle.std.proofs.lemmas.List.{take-append-drop, length-take}
use Rattle.tempo_clock.specs.Clocks.{running_from_zero, at_rest, running_on, with_tempo}
use Rattle.node_table.specs.declared.number.Node.TheVariants.{Filter}
use Rattle.route_filter.specs.declared.rule_args.RuleArgs.{RuleArgs}
use Rattle.seq_state.specs.declared.input.Command.{Command}
use Rattle.seq_state.specs.declared.input.Command.TheVariants.{Open, Close, CreatePort, DeletePort, CreateFilter, SetFilter, DeleteFilter, Connect, Disconnect, Bytes, CreateQueue, CreateQueueFrom, DeleteQueue, Start, Stop, Continue, Tempo, Share, Schedule, Play, DropOutput, Receive, Listen, Unlisten}
use Rattle.seq_state.specs.declared.log.Reply.TheVariants.{Received}
use Rattle.seq_state.specs.declared.refusal.Refusal.{Refusal}
use Rattle.smf_grammar.specs.Played.{PlayedFile}
use Rattle.seq_state.specs.State.{PortInfo, FilterInfo, Queue, Client, ClientPool, Playback, OwnedPlayback, State, with_entry}
use Rattle.seq_state.specs.Effect.{Effect, with_change, port_of, filter_of, queue_of, node_caps, filter_caps, put_port, put_filter, put_queue, port_fed, filter_ruled, queue_map, new_port, new_filter, held_queue, one_tempo, file_queue, file_at, with_clock, public, oldest, without_oldest, with_listening, without_listening}
use Rattle.seq_state.specs.Table.{CommandView, command_row, queue_named}
use Rattle.seq_state.specs.Step.{Stepped, is_left, loses, drops, pending_of, unless, view_of, row_of, refusal_of, effect_of, command_step}
use Rattle.seq_state.specs.Changes.{names_port, names_filter, names_queue, edge_goes, new_edges, pending_goes, adds_playback, is_added, is_playback_of, client_after, OthersLaw, EdgesLaw, PendingLaw, ReceiveLaw, ListenLaw}
use Rattle.cell_pools.specs.Pools.{nothing_came}
use Rattle.seq_state.proofs.Effects.{get-put, none-lost, none-dropped, step-takes, pool_step, step-listens, step-unlistens}
use Rattle.seq_state.proofs.Ends.{get-put_port, get-put_filter, filters-put_port, ports-put_filter, ports-put_queue, filters-put_queue}
use Rattle.seq_state.proofs.Lists.{filter-agree, filter-true, list_all-filter}

-- ---- other clients

pub same_number : (n : ℕ) → eqb n n ≡ true
same_number n = eq-eqb n n refl

-- what the actor has after a step: what its row says, or what it had
actor_after : (files : List PlayedFile) (s : State) (moment actor : ℕ) (command : Command) (P : Option Client → Type 0) → P (FinMap.get s.clients actor) → P (row_of files s moment actor command).effect.client → P (client_after files s moment actor command actor)
actor_after files s moment actor command P before after = go (refusal_of files s moment actor command)
  where
    effect : Effect
    effect = (row_of files s moment actor command).effect

    here : FinMap.get (with_entry s.clients actor effect.client) actor ≡ effect.client
    here = get-put s.clients actor effect.client actor ∙ ap (λ b. cond b effect.client (FinMap.get s.clients actor)) (same_number actor)

    go : (o : Option Refusal) → P (FinMap.get (unless o s (effect_of files s moment actor command)).state.clients actor)
    go None = subst P (sym here) after
    go (Some r) = before

others_after : (files : List PlayedFile) (s : State) (moment actor : ℕ) (command : Command) (c : ℕ) → eqb c actor ≡ false → client_after files s moment actor command c ≡ FinMap.get s.clients c
others_after files s moment actor command c h = go (refusal_of files s moment actor command)
  where
    effect : Effect
    effect = (row_of files s moment actor command).effect

    go : (o : Option Refusal) → FinMap.get (unless o s (effect_of files s moment actor command)).state.clients c ≡ FinMap.get s.clients c
    go None = get-put s.clients actor effect.client c ∙ ap (λ b. cond b effect.client (FinMap.get s.clients c)) h
    go (Some r) = refl

-- ---- other ports, filters and queues

port_apart : (client : Option Client) (m : ℕ) (o : Option PortInfo) (n : ℕ) → eqb n m ≡ false → port_of (with_change client (put_port m o)) n ≡ port_of client n
port_apart None m o n h = refl
port_apart (Some c) m o n h = get-put_port m o c n ∙ ap (λ b. cond b o (FinMap.get c.ports n)) h

port_in_filter : (client : Option Client) (m : ℕ) (o : Option FilterInfo) (n : ℕ) → port_of (with_change client (put_filter m o)) n ≡ port_of client n
port_in_filter None m o n = refl
port_in_filter (Some c) m o n = ap (λ x. FinMap.get x n) (ports-put_filter m o c)

port_in_queue : (client : Option Client) (m : ℕ) (o : Option Queue) (n : ℕ) → port_of (with_change client (put_queue m o)) n ≡ port_of client n
port_in_queue None m o n = refl
port_in_queue (Some c) m o n = ap (λ x. FinMap.get x n) (ports-put_queue m o c)

filter_apart : (client : Option Client) (m : ℕ) (o : Option FilterInfo) (n : ℕ) → eqb n m ≡ false → filter_of (with_change client (put_filter m o)) n ≡ filter_of client n
filter_apart None m o n h = refl
filter_apart (Some c) m o n h = get-put_filter m o c n ∙ ap (λ b. cond b o (FinMap.get c.filters n)) h

filter_in_port : (client : Option Client) (m : ℕ) (o : Option PortInfo) (n : ℕ) → filter_of (with_change client (put_port m o)) n ≡ filter_of client n
filter_in_port None m o n = refl
filter_in_port (Some c) m o n = ap (λ x. FinMap.get x n) (filters-put_port m o c)

filter_in_queue : (client : Option Client) (m : ℕ) (o : Option Queue) (n : ℕ) → filter_of (with_change client (put_queue m o)) n ≡ filter_of client n
filter_in_queue None m o n = refl
filter_in_queue (Some c) m o n = ap (λ x. FinMap.get x n) (filters-put_queue m o c)

pub get-put_queue : (m : ℕ) (o : Option Queue) (c : Client) (n : ℕ) → FinMap.get (put_queue m o c).queues n ≡ cond (eqb n m) o (FinMap.get c.queues n)
get-put_queue m None c n = get-put c.queues m None n
get-put_queue m (Some q) c n = get-put c.queues m (Some q) n

queue_apart : (client : Option Client) (m : ℕ) (o : Option Queue) (n : ℕ) → eqb n m ≡ false → queue_of (with_change client (put_queue m o)) n ≡ queue_of client n
queue_apart None m o n h = refl
queue_apart (Some c) m o n h = get-put_queue m o c n ∙ ap (λ b. cond b o (FinMap.get c.queues n)) h

queue_in_port : (client : Option Client) (m : ℕ) (o : Option PortInfo) (n : ℕ) → queue_of (with_change client (put_port m o)) n ≡ queue_of client n
queue_in_port None m o n = refl
queue_in_port (Some c) m None n = refl
queue_in_port (Some c) m (Some p) n = refl

queue_in_filter : (client : Option Client) (m : ℕ) (o : Option FilterInfo) (n : ℕ) → queue_of (with_change client (put_filter m o)) n ≡ queue_of client n
queue_in_filter None m o n = refl
queue_in_filter (Some c) m None n = refl
queue_in_filter (Some c) m (Some f) n = refl

module _ (a : CommandView) where
  row_ports : (command : Command) (n : ℕ) → names_port command n ≡ false → port_of (command_row a command).effect.client n ≡ port_of a.client n
  unfolding command_row
  row_ports (Open name in_size out_size) n h = absurd (false≢true (sym h))
  row_ports Close n h = absurd (false≢true (sym h))
  row_ports (CreatePort port name caps) n h = port_apart a.client port (Some (new_port name caps)) n h
  row_ports (DeletePort port) n h = port_apart a.client port None n h
  row_ports (Bytes port bytes) n h = port_apart a.client port (port_fed bytes (port_of a.client port)) n h
  row_ports (CreateFilter m caps rule) n h = port_in_filter a.client m (Some (new_filter caps rule)) n
  row_ports (SetFilter m rule) n h = port_in_filter a.client m (filter_ruled rule (filter_of a.client m)) n
  row_ports (DeleteFilter m) n h = port_in_filter a.client m None n
  row_ports (CreateQueue q ppq tempo) n h = port_in_queue a.client q (Some (held_queue (one_tempo ppq tempo))) n
  row_ports (CreateQueueFrom q file) n h = port_in_queue a.client q (file_queue (file_at a.files file)) n
  row_ports (DeleteQueue q) n h = port_in_queue a.client q.queue None n
  row_ports (Start q) n h = port_in_queue a.client q.queue (queue_map (with_clock (λ c. running_from_zero c a.moment)) (queue_of a.client q.queue)) n
  row_ports (Stop q) n h = port_in_queue a.client q.queue (queue_map (with_clock (λ c. at_rest c a.moment)) (queue_of a.client q.queue)) n
  row_ports (Continue q) n h = port_in_queue a.client q.queue (queue_map (with_clock (λ c. running_on c a.moment)) (queue_of a.client q.queue)) n
  row_ports (Tempo q tempo) n h = port_in_queue a.client q.queue (queue_map (with_clock (λ c. with_tempo c a.moment tempo)) (queue_of a.client q.queue)) n
  row_ports (Share q) n h = port_in_queue a.client q.queue (queue_map public (queue_of a.client q.queue)) n
  row_ports command n h = refl

  row_filters : (command : Command) (n : ℕ) → names_filter command n ≡ false → filter_of (command_row a command).effect.client n ≡ filter_of a.client n
  unfolding command_row
  row_filters (Open name in_size out_size) n h = absurd (false≢true (sym h))
  row_filters Close n h = absurd (false≢true (sym h))
  row_filters (CreatePort port name caps) n h = filter_in_port a.client port (Some (new_port name caps)) n
  row_filters (DeletePort port) n h = filter_in_port a.client port None n
  row_filters (Bytes port bytes) n h = filter_in_port a.client port (port_fed bytes (port_of a.client port)) n
  row_filters (CreateFilter m caps rule) n h = filter_apart a.client m (Some (new_filter caps rule)) n h
  row_filters (SetFilter m rule) n h = filter_apart a.client m (filter_ruled rule (filter_of a.client m)) n h
  row_filters (DeleteFilter m) n h = filter_apart a.client m None n h
  row_filters (CreateQueue q ppq tempo) n h = filter_in_queue a.client q (Some (held_queue (one_tempo ppq tempo))) n
  row_filters (CreateQueueFrom q file) n h = filter_in_queue a.client q (file_queue (file_at a.files file)) n
  row_filters (DeleteQueue q) n h = filter_in_queue a.client q.queue None n
  row_filters (Start q) n h = filter_in_queue a.client q.queue (queue_map (with_clock (λ c. running_from_zero c a.moment)) (queue_of a.client q.queue)) n
  row_filters (Stop q) n h = filter_in_queue a.client q.queue (queue_map (with_clock (λ c. at_rest c a.moment)) (queue_of a.client q.queue)) n
  row_filters (Continue q) n h = filter_in_queue a.client q.queue (queue_map (with_clock (λ c. running_on c a.moment)) (queue_of a.client q.queue)) n
  row_filters (Tempo q tempo) n h = filter_in_queue a.client q.queue (queue_map (with_clock (λ c. with_tempo c a.moment tempo)) (queue_of a.client q.queue)) n
  row_filters (Share q) n h = filter_in_queue a.client q.queue (queue_map public (queue_of a.client q.queue)) n
  row_filters command n h = refl

  row_queues : (command : Command) (n : ℕ) → names_queue command n ≡ false → queue_of (command_row a command).effect.client n ≡ queue_of a.client n
  unfolding command_row
  row_queues (Open name in_size out_size) n h = absurd (false≢true (sym h))
  row_queues Close n h = absurd (false≢true (sym h))
  row_queues (CreatePort port name caps) n h = queue_in_port a.client port (Some (new_port name caps)) n
  row_queues (DeletePort port) n h = queue_in_port a.client port None n
  row_queues (Bytes port bytes) n h = queue_in_port a.client port (port_fed bytes (port_of a.client port)) n
  row_queues (CreateFilter m caps rule) n h = queue_in_filter a.client m (Some (new_filter caps rule)) n
  row_queues (SetFilter m rule) n h = queue_in_filter a.client m (filter_ruled rule (filter_of a.client m)) n
  row_queues (DeleteFilter m) n h = queue_in_filter a.client m None n
  row_queues (CreateQueue q ppq tempo) n h = queue_apart a.client q (Some (held_queue (one_tempo ppq tempo))) n h
  row_queues (CreateQueueFrom q file) n h = queue_apart a.client q (file_queue (file_at a.files file)) n h
  row_queues (DeleteQueue q) n h = queue_apart a.client q.queue None n h
  row_queues (Start q) n h = queue_apart a.client q.queue (queue_map (with_clock (λ c. running_from_zero c a.moment)) (queue_of a.client q.queue)) n h
  row_queues (Stop q) n h = queue_apart a.client q.queue (queue_map (with_clock (λ c. at_rest c a.moment)) (queue_of a.client q.queue)) n h
  row_queues (Continue q) n h = queue_apart a.client q.queue (queue_map (with_clock (λ c. running_on c a.moment)) (queue_of a.client q.queue)) n h
  row_queues (Tempo q tempo) n h = queue_apart a.client q.queue (queue_map (with_clock (λ c. with_tempo c a.moment tempo)) (queue_of a.client q.queue)) n h
  row_queues (Share q) n h = queue_apart a.client q.queue (queue_map public (queue_of a.client q.queue)) n h
  row_queues command n h = refl

  -- a filter keeps its capabilities under another rule
  row_caps : (n : ℕ) (rule : RuleArgs) → node_caps (command_row a (SetFilter n rule)).effect.client (Filter n) ≡ node_caps a.client (Filter n)
  unfolding command_row
  row_caps n rule = ruled a.client
    where
      caps_ruled : (o : Option FilterInfo) → filter_caps (filter_ruled rule o) ≡ filter_caps o
      caps_ruled None = refl
      caps_ruled (Some f) = refl

      ruled : (client : Option Client) → filter_caps (filter_of (with_change client (put_filter n (filter_ruled rule (filter_of client n)))) n) ≡ filter_caps (filter_of client n)
      ruled None = refl
      ruled (Some c) =
          let o : Option FilterInfo = filter_ruled rule (FinMap.get c.filters n) in
          ap filter_caps (get-put_filter n o c n ∙ ap (λ b. cond b o (FinMap.get c.filters n)) (same_number n)) ∙ caps_ruled (FinMap.get c.filters n)

pub others_law : OthersLaw
others_law = record {
  clients = others_after;
  ports = λ files s moment actor command n h.
      actor_after files s moment actor command (λ o. port_of o n ≡ port_of (FinMap.get s.clients actor) n) refl (row_ports (view_of files s moment actor command) command n h);
  filters = λ files s moment actor command n h.
      actor_after files s moment actor command (λ o. filter_of o n ≡ filter_of (FinMap.get s.clients actor) n) refl (row_filters (view_of files s moment actor command) command n h);
  queues = λ files s moment actor command n h.
      actor_after files s moment actor command (λ o. queue_of o n ≡ queue_of (FinMap.get s.clients actor) n) refl (row_queues (view_of files s moment actor command) command n h);
  caps = λ files s moment actor n rule.
      actor_after files s moment actor (SetFilter n rule) (λ o. node_caps o (Filter n) ≡ node_caps (FinMap.get s.clients actor) (Filter n)) refl (row_caps (view_of files s moment actor (SetFilter n rule)) n rule);
}

-- ---- subscriptions

-- where an edge goes by its nodes, it goes by the command's name
edges_row : (a : CommandView) (command : Command) → (command_row a command).effect.edges (filter (λ e. not (loses a.actor (command_row a command).effect.gone e)) a.edges) ≡ filter (λ e. not (edge_goes a.actor command e)) a.edges ++ new_edges command
unfolding command_row
edges_row a Close =
    filter-agree (λ e. not (loses a.actor (λ _. true) e)) (λ e. not (edge_goes a.actor Close e)) (λ e. both (eqb e.source.client a.actor) (eqb e.target.client a.actor)) a.edges
    ∙ sym (append-nil (filter (λ e. not (edge_goes a.actor Close e)) a.edges))
  where
    both : (x y : Bool) → not ((x && true) || (y && true)) ≡ not (x || y)
    both x y = grind arith
edges_row a (DeletePort port) = sym (append-nil (filter (λ e. not (edge_goes a.actor (DeletePort port) e)) a.edges))
edges_row a (DeleteFilter n) = sym (append-nil (filter (λ e. not (edge_goes a.actor (DeleteFilter n) e)) a.edges))
edges_row a (Disconnect source target) =
    ap (filter (λ e. not (edge_goes a.actor (Disconnect source target) e))) (none-lost a.actor a.edges) ∙ sym (append-nil (filter (λ e. not (edge_goes a.actor (Disconnect source target) e)) a.edges))
edges_row a (Connect source target) = ap (λ es. es ++ new_edges (Connect source target)) (none-lost a.actor a.edges ∙ sym (filter-true a.edges))
edges_row a command = none-lost a.actor a.edges ∙ sym (filter-true a.edges) ∙ sym (append-nil (filter (λ e. true) a.edges))

-- a step that is not refused
pub done : (files : List PlayedFile) (s : State) (moment actor : ℕ) (command : Command) → refusal_of files s moment actor command ≡ None → command_step files s moment actor command ≡ effect_of files s moment actor command
done files s moment actor command r = ap (λ o. unless o s (effect_of files s moment actor command)) r

pub edges_law : EdgesLaw
edges_law files s moment actor command r = ap (λ (x : Stepped). x.state.edges) (done files s moment actor command r) ∙ edges_row (view_of files s moment actor command) command

-- ---- playbacks

yes_four : (w x y z : Bool) → w ≡ true → x ≡ true → y ≡ true → z ≡ true → (w && x && y && z && true) ≡ true
yes_four w x y z a b c d = grind arith

others_row : (a : CommandView) (command : Command) → adds_playback command ≡ false → (ps : List OwnedPlayback) →
    filter (λ p. not (drops a.actor (command_row a command).effect p)) ps ++ filter is_left (map (pending_of a.actor (queue_named command)) (command_row a command).effect.added) ≡ filter (λ p. not (pending_goes a.actor command p)) ps
unfolding command_row
others_row a Close h ps =
    append-nil (filter (λ p. not (drops a.actor (command_row a Close).effect p)) ps)
    ∙ filter-agree (λ p. not (drops a.actor (command_row a Close).effect p)) (λ p. not (pending_goes a.actor Close p)) (λ p. both (eqb p.client a.actor) (eqb p.queue.client a.actor)) ps
  where
    both : (x y : Bool) → not ((x && true) || (y && true)) ≡ not (x || y)
    both x y = grind arith
others_row a (DeletePort port) h ps =
    append-nil (filter (λ p. not (drops a.actor (command_row a (DeletePort port)).effect p)) ps)
    ∙ filter-agree (λ p. not (drops a.actor (command_row a (DeletePort port)).effect p)) (λ p. not (pending_goes a.actor (DeletePort port) p)) (λ p. first (eqb p.client a.actor && eqb p.playback.port port) (eqb p.queue.client a.actor)) ps
  where
    first : (x y : Bool) → not (x || (y && false)) ≡ not x
    first x y = grind arith
others_row a (DeleteQueue q) h ps =
    append-nil (filter (λ p. not (drops a.actor (command_row a (DeleteQueue q)).effect p)) ps)
    ∙ filter-agree (λ p. not (drops a.actor (command_row a (DeleteQueue q)).effect p)) (λ p. not (pending_goes a.actor (DeleteQueue q) p)) (λ p. second (eqb p.client a.actor) (eqb p.queue.client a.actor && eqb p.queue.queue q.queue)) ps
  where
    second : (x y : Bool) → not ((x && false) || y) ≡ not y
    second x y = grind arith
others_row a DropOutput h ps =
    append-nil (filter (λ p. not (drops a.actor (command_row a DropOutput).effect p)) ps)
    ∙ filter-agree (λ p. not (drops a.actor (command_row a DropOutput).effect p)) (λ p. not (pending_goes a.actor DropOutput p)) (λ p. mine (eqb p.client a.actor) (eqb p.queue.client a.actor)) ps
  where
    mine : (x y : Bool) → not ((x && true) || (y && false)) ≡ not x
    mine x y = grind arith
others_row a (Schedule q port due message) h ps = absurd (false≢true (sym h))
others_row a (Play q port file) h ps = absurd (false≢true (sym h))
others_row a command h ps = append-nil (filter (λ p. not (drops a.actor (command_row a command).effect p)) ps) ∙ none-dropped a.actor None ps ∙ sym (filter-true ps)

added_row : (a : CommandView) (command : Command) → adds_playback command ≡ true → (ps : List OwnedPlayback) →
    (more : List OwnedPlayback) × (filter (λ p. not (drops a.actor (command_row a command).effect p)) ps ++ filter is_left (map (pending_of a.actor (queue_named command)) (command_row a command).effect.added) ≡ ps ++ more) × (list_all (is_added a.actor command) more ≡ true)
unfolding command_row
added_row a (Schedule q port due message) h ps =
    let added : List Playback = (command_row a (Schedule q port due message)).effect.added in
    let new : List OwnedPlayback = map (pending_of a.actor (Some q)) added in (
      filter is_left new,
      ap (λ xs. xs ++ filter is_left new) (none-dropped a.actor None ps),
      list_all-filter (is_playback_of a.actor q port) is_left new (yes_four (eqb a.actor a.actor) (eqb port port) (eqb q.client q.client) (eqb q.queue q.queue) (same_number a.actor) (same_number port) (same_number q.client) (same_number q.queue)),
    )
added_row a (Play q port file) h ps =
    let added : List Playback = (command_row a (Play q port file)).effect.added in
    let new : List OwnedPlayback = map (pending_of a.actor (Some q)) added in (
      filter is_left new,
      ap (λ xs. xs ++ filter is_left new) (none-dropped a.actor None ps),
      list_all-filter (is_playback_of a.actor q port) is_left new (yes_four (eqb a.actor a.actor) (eqb port port) (eqb q.client q.client) (eqb q.queue q.queue) (same_number a.actor) (same_number port) (same_number q.client) (same_number q.queue)),
    )
added_row a command h ps = absurd (false≢true h)

pub pending_law : PendingLaw
pending_law = record {
  others = λ files s moment actor command r h.
      ap (λ (x : Stepped). x.state.pending) (done files s moment actor command r) ∙ others_row (view_of files s moment actor command) command h s.pending;
  added = λ files s moment actor command r h.
      let x = added_row (view_of files s moment actor command) command h s.pending in
      (x.0, ap (λ (y : Stepped). y.state.pending) (done files s moment actor command r) ∙ x.1, x.2);
}

-- ---- the input pool

pub receive_law : ReceiveLaw
receive_law files s moment actor max before e r =
    let after : ClientPool = record before { waiting = drop max before.waiting } in
    let to : Option ClientPool → Stepped = λ o. record { state = record s { pools = with_entry s.pools actor (without_oldest max o) }; delivered = []; reply = Received (oldest max o) } in
    let step : command_step files s moment actor (Receive max) ≡ to (Some before) =
    step-takes files s moment actor max ∙ ap (λ o. unless o s (to (FinMap.get s.pools actor))) r ∙ ap to e in (
      after,
      take max before.waiting,
      ap (λ (x : Stepped). FinMap.get x.state.pools actor) step ∙ get-put s.pools actor (Some after) actor ∙ ap (λ b. cond b (Some after) (FinMap.get s.pools actor)) (same_number actor),
      ap (λ (x : Stepped). x.reply) step,
      record { all = sym (take-append-drop max before.waiting); many = length-take max before.waiting; lost = refl; size = refl },
    )

pooled : (s : State) (actor : ℕ) (before after : ClientPool) (refusal : Option Refusal) (g : Option ClientPool → Option ClientPool) → FinMap.get s.pools actor ≡ Some before → refusal ≡ None → g (Some before) ≡ Some after →
    FinMap.get (pool_step s actor refusal g).state.pools actor ≡ Some after
pooled s actor before after refusal g e r h =
    ap (λ o. FinMap.get (pool_step s actor o g).state.pools actor) r
    ∙ get-put s.pools actor (g (FinMap.get s.pools actor)) actor ∙ ap (λ b. cond b (g (FinMap.get s.pools actor)) (FinMap.get s.pools actor)) (same_number actor)
    ∙ ap g e ∙ h

pub listen_law : ListenLaw
listen_law = record {
  listens = λ files s moment actor before e r.
      ap (λ (x : Stepped). FinMap.get x.state.pools actor) (step-listens files s moment actor)
      ∙ pooled s actor before (record before { listening = Some nothing_came }) (refusal_of files s moment actor Listen) with_listening e r refl;
  unlistens = λ files s moment actor before e r.
      ap (λ (x : Stepped). FinMap.get x.state.pools actor) (step-unlistens files s moment actor)
      ∙ pooled s actor before (record before { listening = None }) (refusal_of files s moment actor Unlisten) without_listening e r refl;
}
