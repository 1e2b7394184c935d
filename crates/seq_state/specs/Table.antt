-- Definition: The table of commands: for each its refusals, in the order of their numbers, and what
-- it does where none of them stands.
use Rattle.std.specs.Prelude.{ℕ, ◌==◌, nat_le, Bool, true, false, not, ◌&&◌, ◌||◌, if◌then◌else◌, List, [], ◌∷◌, ◌++◌, map, length, Option, Some, None, is_some}
use Rattle.midi_wire.specs.Readings.{reading}
use Rattle.tempo_clock.specs.Clocks.{running_from_zero, at_rest, running_on, with_tempo}
use Rattle.tempo_clock.specs.Entries.{is_ppq, is_tempo}
use Rattle.route_filter.specs.Rules.{is_rule}
use Rattle.route_filter.specs.declared.rule_args.RuleArgs.{RuleArgs}
use Rattle.cell_pools.specs.Pools.{is_size, empty_pool}
use Rattle.node_table.specs.Addresses.{same_node}
use Rattle.node_table.specs.Capabilities.{permits}
use Rattle.node_table.specs.Names.{is_name}
use Rattle.node_table.specs.declared.caps.Caps.{Caps}
use Rattle.node_table.specs.declared.number.Addr.{Addr}
use Rattle.node_table.specs.declared.number.Node.TheVariants.{Port, Filter}
use Rattle.node_table.specs.declared.number.QueueAddr.{QueueAddr}
use Rattle.patch_graph.specs.Chains.{makes_cycle}
use Rattle.patch_graph.specs.Edges.{edge, has_edge, without_edge, sources_of, most_sources}
use Rattle.patch_graph.specs.declared.edge.Edge.{Edge}
use Rattle.seq_state.specs.declared.input.Command.{Command}
use Rattle.seq_state.specs.declared.input.Command.TheVariants.{Open, Close, CreatePort, DeletePort, CreateFilter, SetFilter, DeleteFilter, Connect, Disconnect, Bytes, Send, CreateQueue, CreateQueueFrom, DeleteQueue, Start, Stop, Continue, Tempo, QueueStatus, Share, Schedule, Play, DropOutput, Receive, Listen, Unlisten, PoolStatus}
use Rattle.seq_state.specs.declared.input.DueAt.{DueAt}
use Rattle.seq_state.specs.declared.log.Reply.TheVariants as replies
use Rattle.seq_state.specs.declared.refusal.Refusal.{Refusal}
use Rattle.seq_state.specs.declared.refusal.Refusal.TheVariants as refusal
use Rattle.smf_grammar.specs.Played.{PlayedFile}
use Rattle.seq_state.specs.State.{Queue, Client}
use Rattle.seq_state.specs.Effect.{Effect, done_with, with_change, out_size, port_of, filter_of, queue_of, has_port, has_filter, has_queue, put_port, put_filter, new_port, new_filter, fed_of, port_fed, filter_ruled, new_client, oldest, without_oldest, with_listening, without_listening, pool_status, queue_is, put_queue, queue_changed, with_clock, public, runs, held_queue, one_tempo, file_queue, queue_status, counts_frames, passes_end, scheduled_events, file_at, file_events, has_division, playback}

-- What a row of the table looks at: the files of the run, the moment, who says the command and what
-- it has of its own, if it is open; the queue that the command names, where the actor may use it;
-- the number of its playbacks. Connect and Disconnect alone look at what each node allows, if it is
-- there, and at the subscriptions.
pub record CommandView : Type 0 where
  pub files : List PlayedFile
  pub moment : ℕ
  pub actor : ℕ
  pub client : Option Client
  pub queue : Option Queue
  pub used : ℕ
  pub nodes : Addr → Option Caps
  pub edges : List Edge

-- A refusal, and whether its condition holds.
abbrev pub Condition : Type 0
Condition = Refusal × Bool

-- A row: the refusals that the command may have, and what it does where none of them stands.
pub record Row : Type 0 where
  pub conditions : List Condition
  pub effect : Effect

abbrev pub row : List Condition → Effect → Row
row conditions effect = record { conditions = conditions; effect = effect }

-- the first refusal whose condition holds
abbrev pub first_refusal : List Condition → Option Refusal
first_refusal [] = None
first_refusal (c ∷ cs) = if c.1 then Some c.0 else first_refusal cs

-- ---- the conditions

abbrev pub not_open : CommandView → Condition
not_open a = (refusal.NotOpen, not (is_some a.client))

abbrev pub already_open : CommandView → Condition
already_open a = (refusal.AlreadyOpen, is_some a.client)

abbrev pub bad_name : List ℕ → Condition
bad_name name = (refusal.BadName, not (is_name name))

abbrev pub bad_sizes : ℕ → ℕ → Condition
bad_sizes in_size out_size = (refusal.BadSize, not (is_size in_size && is_size out_size))

abbrev pub bad_max : ℕ → Condition
bad_max max = (refusal.BadSize, not (is_size max))

abbrev pub bad_ppq : ℕ → Condition
bad_ppq ppq = (refusal.BadSize, not (is_ppq ppq))

abbrev pub bad_rule : RuleArgs → Condition
bad_rule rule = (refusal.BadRule, not (is_rule rule))

abbrev pub port_exists : CommandView → ℕ → Condition
port_exists a port = (refusal.NodeExists, has_port a.client port)

abbrev pub filter_exists : CommandView → ℕ → Condition
filter_exists a n = (refusal.NodeExists, has_filter a.client n)

abbrev pub no_port : CommandView → ℕ → Condition
no_port a port = (refusal.NoNode, not (has_port a.client port))

abbrev pub no_filter : CommandView → ℕ → Condition
no_filter a n = (refusal.NoNode, not (has_filter a.client n))

abbrev pub no_sender : CommandView → Addr → Condition
no_sender a source = (refusal.NoSender, not (is_some (a.nodes source)))

abbrev pub no_dest : CommandView → Addr → Condition
no_dest a target = (refusal.NoDest, not (is_some (a.nodes target)))

-- the test of capabilities
abbrev pub is_permitted : ℕ → Addr → Option Caps → Addr → Option Caps → Bool
is_permitted actor source None target write = false
is_permitted actor source (Some r) target None = false
is_permitted actor source (Some r) target (Some w) = permits actor source r.0 target w.0

abbrev pub not_permitted : CommandView → Addr → Addr → Condition
not_permitted a source target = (
  refusal.NotPermitted,
  not (is_permitted a.actor source (a.nodes source) target (a.nodes target)),
)

abbrev pub already_connected : CommandView → Addr → Addr → Condition
already_connected a source target = (refusal.AlreadyConnected, has_edge a.edges source target)

abbrev pub not_connected : CommandView → Addr → Addr → Condition
not_connected a source target = (refusal.NotConnected, not (has_edge a.edges source target))

abbrev pub sources_full : CommandView → Addr → Condition
sources_full a target = (refusal.SourcesFull, nat_le most_sources (sources_of a.edges target))

abbrev pub cycle : CommandView → Addr → Addr → Condition
cycle a source target = (refusal.Cycle, makes_cycle a.edges source target)

abbrev pub queue_exists : CommandView → ℕ → Condition
queue_exists a n = (refusal.QueueExists, has_queue a.client n)

-- another's queue
abbrev pub not_yours : CommandView → QueueAddr → Condition
not_yours a q = (refusal.NotYours, not (q.client == a.actor))

-- another's queue that the actor may not use, or that is not there
abbrev pub not_shared : CommandView → QueueAddr → Condition
not_shared a q = (refusal.NotYours, not (q.client == a.actor) && not (is_some a.queue))

abbrev pub no_queue : CommandView → QueueAddr → Condition
no_queue a q = (refusal.NoQueue, not (has_queue a.client q.queue))

-- the same for a queue that may be another's
abbrev pub none_named : CommandView → Condition
none_named a = (refusal.NoQueue, not (is_some a.queue))

abbrev pub queue_running : CommandView → QueueAddr → Condition
queue_running a q = (refusal.QueueRunning, queue_is runs (queue_of a.client q.queue))

abbrev pub queue_stopped : CommandView → QueueAddr → Condition
queue_stopped a q = (refusal.QueueStopped, not (queue_is runs (queue_of a.client q.queue)))

abbrev pub no_file : CommandView → ℕ → Condition
no_file a file = (refusal.NoFile, not (is_some (file_at a.files file)))

abbrev pub division_differs : CommandView → ℕ → Condition
division_differs a file =
    (refusal.DivisionDiffers, not (has_division a.queue (file_at a.files file)))

abbrev pub bad_tempo : ℕ → Condition
bad_tempo tempo = (refusal.BadTempo, not (is_tempo tempo))

-- a queue that counts frames takes no tempo
abbrev pub bad_tempo_on : CommandView → QueueAddr → ℕ → Condition
bad_tempo_on a q tempo =
    (refusal.BadTempo, not (is_tempo tempo) || queue_is counts_frames (queue_of a.client q.queue))

abbrev pub bad_time : CommandView → DueAt → Condition
bad_time a due = (refusal.BadTime, queue_is (passes_end a.moment due) a.queue)

abbrev pub out_full : CommandView → Condition
out_full a = (refusal.OutFull, a.used == out_size a.client)

-- ---- what the rows have in common

-- the queue that a command names
abbrev pub queue_named : Command → Option QueueAddr
queue_named (DeleteQueue q) = Some q
queue_named (Start q) = Some q
queue_named (Stop q) = Some q
queue_named (Continue q) = Some q
queue_named (Tempo q tempo) = Some q
queue_named (QueueStatus q) = Some q
queue_named (Share q) = Some q
queue_named (Schedule q port due message) = Some q
queue_named (Play q port file) = Some q
queue_named _ = None

-- a queue that the actor may use: its own, or one that is shared
abbrev pub visible : ℕ → ℕ → Option Queue → Option Queue
visible actor owner None = None
visible actor owner (Some q) = if (owner == actor) || q.shared then Some q else None

-- the youngest edge stands last
abbrev pub with_edge : Addr → Addr → List Edge → List Edge
with_edge source target edges = edges ++ edge source target ∷ []

abbrev pub without_edge_of : Addr → Addr → List Edge → List Edge
without_edge_of source target edges = without_edge edges source target

-- a message from a port
abbrev pub from_port : ℕ → List ℕ → ℕ × List ℕ
from_port port message = (port, message)

-- the messages that these bytes complete of a port's stream
abbrev pub completed_messages : CommandView → ℕ → List ℕ → List (List ℕ)
completed_messages a port bytes = reading (fed_of (port_of a.client port) ++ bytes)

-- ---- the rows

unfoldable pub command_row : CommandView → Command → Row
command_row a (Open name in_size out_size) =
    row (already_open a ∷ bad_name name ∷ bad_sizes in_size out_size ∷ [])
    (record (done_with (Some (new_client name in_size out_size)))
    { pool = λ p. Some (empty_pool in_size) })
command_row a Close =
    row (not_open a ∷ [])
    (record (done_with None)
    { pool = λ p. None; gone = λ n. true; dropped = λ p. true; queue_gone = λ n. true })
command_row a (CreatePort port name caps) =
    row (not_open a ∷ bad_name name ∷ port_exists a port ∷ [])
    (done_with (with_change a.client (put_port port (Some (new_port name caps)))))
command_row a (DeletePort port) =
    row (not_open a ∷ no_port a port ∷ [])
    (record (done_with (with_change a.client (put_port port None)))
    { gone = same_node (Port port); dropped = λ p. p.port == port })
command_row a (CreateFilter filter caps rule) =
    row (not_open a ∷ bad_rule rule ∷ filter_exists a filter ∷ [])
    (done_with (with_change a.client (put_filter filter (Some (new_filter caps rule)))))
command_row a (SetFilter filter rule) =
    row (not_open a ∷ bad_rule rule ∷ no_filter a filter ∷ [])
    (done_with (with_change a.client
    (put_filter filter (filter_ruled rule (filter_of a.client filter)))))
command_row a (DeleteFilter filter) =
    row (not_open a ∷ no_filter a filter ∷ [])
    (record (done_with (with_change a.client (put_filter filter None)))
    { gone = same_node (Filter filter) })
command_row a (Connect source target) =
    row
    (not_open a ∷ no_sender a source ∷ no_dest a target ∷ not_permitted a source target
    ∷ already_connected a source target ∷ sources_full a target ∷ cycle a source target ∷ [])
    (record (done_with a.client) { edges = with_edge source target })
command_row a (Disconnect source target) =
    row
    (not_open a ∷ no_sender a source ∷ no_dest a target ∷ not_permitted a source target
    ∷ not_connected a source target ∷ [])
    (record (done_with a.client) { edges = without_edge_of source target })
command_row a (Bytes port bytes) =
    row (not_open a ∷ no_port a port ∷ [])
    (record (done_with (with_change a.client
    (put_port port (port_fed bytes (port_of a.client port))))) {
      sends = map (from_port port) (completed_messages a port bytes);
      reply = λ p. replies.Messages (length (completed_messages a port bytes));
    })
command_row a (Send port message) =
    row (not_open a ∷ no_port a port ∷ [])
    (record (done_with a.client) { sends = from_port port message ∷ [] })
command_row a (CreateQueue queue ppq tempo) =
    row (not_open a ∷ bad_ppq ppq ∷ queue_exists a queue ∷ bad_tempo tempo ∷ [])
    (done_with (with_change a.client (put_queue queue (Some (held_queue (one_tempo ppq tempo))))))
command_row a (CreateQueueFrom queue file) =
    row (not_open a ∷ queue_exists a queue ∷ no_file a file ∷ [])
    (done_with (with_change a.client (put_queue queue (file_queue (file_at a.files file)))))
command_row a (DeleteQueue q) =
    row (not_open a ∷ not_yours a q ∷ no_queue a q ∷ [])
    (record (done_with (with_change a.client (put_queue q.queue None)))
    { queue_gone = λ n. n == q.queue })
command_row a (Start q) =
    row (not_open a ∷ not_yours a q ∷ no_queue a q ∷ queue_running a q ∷ [])
    (done_with (queue_changed a.client q.queue (with_clock (λ c. running_from_zero c a.moment))))
command_row a (Stop q) =
    row (not_open a ∷ not_yours a q ∷ no_queue a q ∷ queue_stopped a q ∷ [])
    (done_with (queue_changed a.client q.queue (with_clock (λ c. at_rest c a.moment))))
command_row a (Continue q) =
    row (not_open a ∷ not_yours a q ∷ no_queue a q ∷ queue_running a q ∷ [])
    (done_with (queue_changed a.client q.queue (with_clock (λ c. running_on c a.moment))))
command_row a (Tempo q tempo) =
    row (not_open a ∷ not_yours a q ∷ no_queue a q ∷ bad_tempo_on a q tempo ∷ [])
    (done_with (queue_changed a.client q.queue (with_clock (λ c. with_tempo c a.moment tempo))))
command_row a (QueueStatus q) =
    row (not_open a ∷ not_shared a q ∷ none_named a ∷ [])
    (record (done_with a.client) { reply = λ p. queue_status a.moment a.queue })
command_row a (Share q) =
    row (not_open a ∷ not_yours a q ∷ no_queue a q ∷ [])
    (done_with (queue_changed a.client q.queue public))
command_row a (Schedule q port due message) =
    row (not_open a ∷ no_port a port ∷ not_shared a q ∷ none_named a ∷ bad_time a due ∷ out_full a
    ∷ [])
    (record (done_with a.client)
    { added = playback port a.moment (scheduled_events a.moment a.queue due message) ∷ [] })
command_row a (Play q port file) =
    row
    (not_open a ∷ no_port a port ∷ not_shared a q ∷ none_named a ∷ no_file a file
    ∷ division_differs a file ∷ out_full a ∷ [])
    (record (done_with a.client)
    { added = playback port a.moment (file_events (file_at a.files file)) ∷ [] })
command_row a DropOutput =
    row (not_open a ∷ [])
    (record (done_with a.client) { dropped = λ p. true })
command_row a (Receive max) =
    row (not_open a ∷ bad_max max ∷ [])
    (record (done_with a.client)
    { pool = without_oldest max; reply = λ p. replies.Received (oldest max p) })
command_row a Listen =
    row (not_open a ∷ [])
    (record (done_with a.client) { pool = with_listening })
command_row a Unlisten =
    row (not_open a ∷ [])
    (record (done_with a.client) { pool = without_listening })
command_row a PoolStatus =
    row (not_open a ∷ [])
    (record (done_with a.client) { reply = pool_status a.used })
