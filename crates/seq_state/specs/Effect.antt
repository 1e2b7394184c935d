-- Definition: What a client has of its own, and what a command changes of it.
use Rattle.std.specs.Prelude.{ℕ, ◌+◌, ◌^◌, ◌==◌, nat_le, Bool, true, false, List, [], ◌∷◌, ◌++◌, map, length, Option, Some, None, is_some, slice_get}
use Rattle.std.specs.Option.{option_map}
use Rattle.std.specs.FinMap
use Rattle.midi_wire.specs.Readings.{rest}
use Rattle.tempo_clock.specs.Clocks.{Clock, elapsed_time}
use Rattle.tempo_clock.specs.Ticks.{Tempos, is_smpte, tick_at}
use Rattle.tempo_clock.specs.declared.due.Due.{Due}
use Rattle.tempo_clock.specs.declared.due.Due.TheVariants.{Tick, Nanos}
use Rattle.route_filter.specs.declared.rule_args.RuleArgs.{RuleArgs}
use Rattle.cell_pools.specs.Pools.{oldest_items, after_take, listening_on, not_listening}
use Rattle.node_table.specs.declared.caps.Caps.{Caps}
use Rattle.node_table.specs.declared.number.Node.{Node}
use Rattle.node_table.specs.declared.number.Node.TheVariants.{Port, Filter}
use Rattle.patch_graph.specs.declared.edge.Edge.{Edge}
use Rattle.seq_state.specs.declared.input.DueAt.{DueAt}
use Rattle.seq_state.specs.declared.input.DueAt.TheVariants as due_at
use Rattle.seq_state.specs.declared.log.Arrival.{Arrival}
use Rattle.seq_state.specs.declared.log.Reply.{Reply}
use Rattle.seq_state.specs.declared.log.Reply.TheVariants as replies
use Rattle.smf_grammar.specs.Played.{PlayedFile}
use Rattle.seq_state.specs.State.{PortInfo, FilterInfo, Queue, Client, ClientPool, DueMessage, Playback, ports_of, filters_of, queues_of}

-- What a command does where it is not refused: what the actor has then, what becomes of its input
-- pool, which of its nodes go, what becomes of the subscriptions besides, which of its playbacks
-- and of its queues go, which playbacks it gets, what it sends from which port, and the reply, by
-- what its input pool has.
pub record Effect : Type 0 where
  pub client : Option Client
  pub pool : Option ClientPool → Option ClientPool
  pub gone : Node → Bool
  pub edges : List Edge → List Edge
  pub dropped : Playback → Bool
  pub queue_gone : ℕ → Bool
  pub added : List Playback
  pub sends : List (ℕ × List ℕ)
  pub reply : Option ClientPool → Reply

-- the actor has this, nothing else changes, and the command is done
abbrev pub done_with : Option Client → Effect
done_with client =
    record {
      client = client;
      pool = λ p. p;
      gone = λ n. false;
      edges = λ es. es;
      dropped = λ p. false;
      queue_gone = λ n. false;
      added = [];
      sends = [];
      reply = λ p. replies.Done;
    }

-- ---- clients, ports and filters

-- the client with a change, where it is open
abbrev pub with_change : Option Client → (Client → Client) → Option Client
with_change None f = None
with_change (Some c) f = Some (f c)

abbrev pub out_size : Option Client → ℕ
out_size None = 0
out_size (Some c) = c.out_size

abbrev pub port_of : Option Client → ℕ → Option PortInfo
port_of client port = FinMap.get (ports_of client) port

abbrev pub filter_of : Option Client → ℕ → Option FilterInfo
filter_of client n = FinMap.get (filters_of client) n

abbrev pub queue_of : Option Client → ℕ → Option Queue
queue_of client n = FinMap.get (queues_of client) n

abbrev pub has_port : Option Client → ℕ → Bool
has_port client port = is_some (port_of client port)

abbrev pub has_filter : Option Client → ℕ → Bool
has_filter client n = is_some (filter_of client n)

abbrev pub has_queue : Option Client → ℕ → Bool
has_queue client n = is_some (queue_of client n)

abbrev pub put_port : ℕ → Option PortInfo → Client → Client
put_port n None c = record c { ports = FinMap.remove c.ports n }
put_port n (Some p) c = record c { ports = FinMap.insert c.ports n p }

abbrev pub put_filter : ℕ → Option FilterInfo → Client → Client
put_filter n None c = record c { filters = FinMap.remove c.filters n }
put_filter n (Some f) c = record c { filters = FinMap.insert c.filters n f }

-- what a node of a client allows, if it is there
abbrev pub port_caps : Option PortInfo → Option Caps
port_caps None = None
port_caps (Some p) = Some p.caps

abbrev pub filter_caps : Option FilterInfo → Option Caps
filter_caps None = None
filter_caps (Some f) = Some f.caps

abbrev pub node_caps : Option Client → Node → Option Caps
node_caps client (Port n) = port_caps (port_of client n)
node_caps client (Filter n) = filter_caps (filter_of client n)

-- a port as it is made
abbrev pub new_port : List ℕ → Caps → PortInfo
new_port name caps = record { name = name; caps = caps; fed = [] }

abbrev pub new_filter : Caps → RuleArgs → FilterInfo
new_filter caps rule = record { caps = caps; rule = rule }

-- what still matters of what a port was fed
abbrev pub fed_of : Option PortInfo → List ℕ
fed_of None = []
fed_of (Some p) = p.fed

-- a port's stream goes on by these bytes
abbrev pub port_fed : List ℕ → Option PortInfo → Option PortInfo
port_fed bytes None = None
port_fed bytes (Some p) = Some (record p { fed = rest (p.fed ++ bytes) })

-- a filter with another rule
abbrev pub filter_ruled : RuleArgs → Option FilterInfo → Option FilterInfo
filter_ruled rule None = None
filter_ruled rule (Some f) = Some (record f { rule = rule })

-- a client as it is opened
abbrev pub new_client : List ℕ → ℕ → ℕ → Client
new_client name in_size out_size =
    record {
      name = name;
      in_size = in_size;
      out_size = out_size;
      ports = FinMap.empty;
      filters = FinMap.empty;
      queues = FinMap.empty;
    }

-- ---- the input pool

-- the oldest that wait, and the pool without them
abbrev pub oldest : ℕ → Option ClientPool → List Arrival
oldest max None = []
oldest max (Some p) = oldest_items max p

abbrev pub without_oldest : ℕ → Option ClientPool → Option ClientPool
without_oldest max None = None
without_oldest max (Some p) = Some (after_take max p)

-- the pool of a client that listens from now on, and of one that listens no longer
abbrev pub with_listening : Option ClientPool → Option ClientPool
with_listening pool = option_map listening_on pool

abbrev pub without_listening : Option ClientPool → Option ClientPool
without_listening pool = option_map not_listening pool

abbrev pub pool_status : ℕ → Option ClientPool → Reply
pool_status used None = replies.Pools 0 0 used
pool_status used (Some p) = replies.Pools (length p.waiting) p.lost used

-- ---- queues

-- a test of a queue, where it is there
abbrev pub queue_is : (Queue → Bool) → Option Queue → Bool
queue_is test None = false
queue_is test (Some q) = test q

abbrev pub put_queue : ℕ → Option Queue → Client → Client
put_queue n None c = record c { queues = FinMap.remove c.queues n }
put_queue n (Some q) c = record c { queues = FinMap.insert c.queues n q }

abbrev pub queue_map : (Queue → Queue) → Option Queue → Option Queue
queue_map f None = None
queue_map f (Some q) = Some (f q)

-- the client with a change of one of its queues
abbrev pub queue_changed : Option Client → ℕ → (Queue → Queue) → Option Client
queue_changed client n f = with_change client (put_queue n (queue_map f (queue_of client n)))

-- a queue with a change of its clock
abbrev pub with_clock : (Clock → Clock) → Queue → Queue
with_clock f q = record q { clock = f q.clock }

-- a queue that others may use
abbrev pub public : Queue → Queue
public q = record q { shared = true }

abbrev pub runs : Queue → Bool
runs q = is_some q.clock.since

-- the tick that a queue shows, and the time
abbrev pub present_tick : ℕ → Queue → ℕ
present_tick moment q = tick_at q.clock.map (elapsed_time q.clock moment)

abbrev pub present_time : ℕ → Queue → ℕ
present_time moment q = elapsed_time q.clock moment

-- a private queue with a tempo map, held at 0
abbrev pub held_queue : Tempos → Queue
held_queue tempos =
    record { clock = record { map = tempos; time = 0; since = None }; shared = false }

-- one tempo from the first tick on
abbrev pub one_tempo : ℕ → ℕ → Tempos
one_tempo ppq tempo = record { division = ppq; entries = record { tick = 0; tempo = tempo } ∷ [] }

-- a new queue with the tempo map of a file
abbrev pub file_queue : Option PlayedFile → Option Queue
file_queue None = None
file_queue (Some f) = Some (held_queue (record { division = f.division; entries = f.entries }))

abbrev pub queue_status : ℕ → Option Queue → Reply
queue_status moment None = replies.Done
queue_status moment (Some q) =
    replies.Queue (runs q) (present_tick moment q) (present_time moment q)

-- the queue counts frames, and has no tempo
abbrev pub counts_frames : Queue → Bool
counts_frames q = is_smpte q.clock.map

-- ---- events

-- past the greatest tick and the greatest time, those of 64 bits
abbrev pub is_past_end : ℕ → Bool
is_past_end n = nat_le (2 ^ 64) n

-- the due time that is meant at a moment
abbrev pub due_of : ℕ → Queue → DueAt → Due
due_of moment q (due_at.Tick n) = Tick n
due_of moment q (due_at.TickAfter n) = Tick (present_tick moment q + n)
due_of moment q (due_at.Nanos n) = Nanos n
due_of moment q (due_at.NanosAfter n) = Nanos (present_time moment q + n)

-- a relative due time lies past the end
abbrev pub passes_end : ℕ → DueAt → Queue → Bool
passes_end moment (due_at.Tick n) q = false
passes_end moment (due_at.TickAfter n) q = is_past_end (present_tick moment q + n)
passes_end moment (due_at.Nanos n) q = false
passes_end moment (due_at.NanosAfter n) q = is_past_end (present_time moment q + n)

abbrev pub scheduled_events : ℕ → Option Queue → DueAt → List ℕ → List DueMessage
scheduled_events moment None due message = []
scheduled_events moment (Some q) due message =
    record { due = due_of moment q due; message = message } ∷ []

-- the file with this number
abbrev pub file_at : List PlayedFile → ℕ → Option PlayedFile
file_at files n = slice_get files n

-- the events of a file, each due at its tick
abbrev pub file_events : Option PlayedFile → List DueMessage
file_events None = []
file_events (Some f) = map (λ e. record { due = Tick e.tick; message = e.message }) f.events

-- the file has the division of the queue
abbrev pub has_division : Option Queue → Option PlayedFile → Bool
has_division None f = false
has_division (Some q) None = false
has_division (Some q) (Some f) = f.division == q.clock.map.division

-- what is still to be sent from a port, and since when
abbrev pub playback : ℕ → ℕ → List DueMessage → Playback
playback port moment events = record { port = port; accepted = moment; events = events }
