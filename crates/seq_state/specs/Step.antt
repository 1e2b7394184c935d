-- Definition: Settling, one input, and a run.
use Rattle.std.specs.Prelude.{ℕ, zero, suc, ◌+◌, ◌≤◌, ◌==◌, nat_le, Bool, true, false, not, ◌&&◌, ◌||◌, if◌then◌else◌, List, [], ◌∷◌, ◌++◌, map, length, Option, Some, None}
use Rattle.std.specs.List.{filter, flat_map}
use Rattle.std.specs.Ordering.{nat_cmp}
use Rattle.std.specs.FinMap
use Rattle.std.specs.FinMap.{FinMap}
use Rattle.tempo_clock.specs.Clocks.{moment_of}
use Rattle.tempo_clock.specs.declared.due.Due.{Due}
use Rattle.node_table.specs.declared.caps.Caps.{Caps}
use Rattle.node_table.specs.declared.number.Addr.{Addr}
use Rattle.node_table.specs.declared.number.Node.{Node}
use Rattle.node_table.specs.declared.number.Node.TheVariants.{Port, Filter}
use Rattle.node_table.specs.declared.number.QueueAddr.{QueueAddr}
use Rattle.patch_graph.specs.declared.edge.Edge.{Edge}
use Rattle.seq_state.specs.declared.input.Command.{Command}
use Rattle.seq_state.specs.declared.input.Input.{Input}
use Rattle.cell_pools.specs.Pools as pools
use Rattle.seq_state.specs.declared.log.Arrival.{Arrival}
use Rattle.seq_state.specs.declared.log.Delivery.{Delivery}
use Rattle.seq_state.specs.declared.log.LogEntry.{LogEntry}
use Rattle.seq_state.specs.declared.log.LogEntry.TheVariants.{Delivered, Replied}
use Rattle.seq_state.specs.declared.log.Reply.{Reply}
use Rattle.seq_state.specs.declared.log.Reply.TheVariants.{Refused}
use Rattle.seq_state.specs.declared.refusal.Refusal.{Refusal}
use Rattle.smf_grammar.specs.Played.{PlayedFile}
use Rattle.seq_state.specs.Refusals.{refused}
use Rattle.seq_state.specs.State.{Queue, Client, ClientPool, DueMessage, Playback, OwnedPlayback, State, start, queues_of, with_entry}
use Rattle.seq_state.specs.Copies.{copies}
use Rattle.seq_state.specs.Effect.{Effect, node_caps}
use Rattle.seq_state.specs.Table.{CommandView, Row, first_refusal, queue_named, visible, command_row}

-- ---- delivering

-- there is a pool, with room at a moment
abbrev pub pool_has_room : ℕ → Option ClientPool → Bool
pool_has_room moment None = false
pool_has_room moment (Some p) = pools.has_room moment p

-- a delivery as it waits
abbrev pub arrival : Delivery → Arrival
arrival d = record { moment = d.moment; port = d.target.port; message = d.message }

-- a client's input pool after a copy was offered to it
abbrev pub offer : Option ClientPool → Delivery → Option ClientPool
offer None d = None
offer (Some p) d = Some (pools.after_offer d.moment p (arrival d))

-- the pools after these copies were offered, in order
abbrev pub pools_after : FinMap nat_cmp ClientPool → List Delivery → FinMap nat_cmp ClientPool
pools_after pools [] = pools
pools_after pools (d ∷ ds) =
    pools_after (with_entry pools d.target.client (offer (FinMap.get pools d.target.client) d)) ds

-- the copies that found room
abbrev pub copies_with_room : FinMap nat_cmp ClientPool → List Delivery → List Delivery
copies_with_room pools [] = []
copies_with_room pools (d ∷ ds) =
    let rest = copies_with_room
    (with_entry pools d.target.client (offer (FinMap.get pools d.target.client) d)) ds in
    if pool_has_room d.moment (FinMap.get pools d.target.client) then d ∷ rest else rest

-- ---- settling

-- An event at its moment.
pub record Timed : Type 0 where
  pub moment : ℕ
  pub client : ℕ
  pub port : ℕ
  pub message : List ℕ

-- when something accepted then is due by a queue, if the queue comes to it as it runs now
abbrev pub moment_in : Option Queue → ℕ → Due → Option ℕ
moment_in None accepted due = None
moment_in (Some q) accepted due = moment_of q.clock accepted due

-- an event's moment, if it has one
abbrev pub event_moment : FinMap nat_cmp Client → OwnedPlayback → DueMessage → Option ℕ
event_moment clients p e = moment_in
    (FinMap.get (queues_of (FinMap.get clients p.queue.client)) p.queue.queue) p.playback.accepted
    e.due

abbrev pub is_at : ℕ → Option ℕ → Bool
is_at m None = false
is_at m (Some k) = k == m

abbrev pub is_by : ℕ → Option ℕ → Bool
is_by m None = false
is_by m (Some k) = nat_le k m

-- a playback's events of one moment
abbrev pub playback_at : FinMap nat_cmp Client → ℕ → OwnedPlayback → List Timed
playback_at clients m p =
    map (λ e. record { moment = m; client = p.client; port = p.playback.port; message = e.message })
    (filter (λ e. is_at m (event_moment clients p e)) p.playback.events)

-- all events of one moment, in the order of their commands and of the file
abbrev pub all_at : FinMap nat_cmp Client → List OwnedPlayback → ℕ → List Timed
all_at clients pending m = flat_map (playback_at clients m) pending

-- one moment after another, up to m
unfoldable pub upto : {X : Type 0} → (ℕ → List X) → ℕ → List X
upto f zero = f zero
upto f (suc m) = upto f m ++ f (suc m)

-- the events that are due by m, in the order of their moments, of their commands, and of the file
abbrev pub due : State → ℕ → List Timed
due s m = upto (all_at s.clients s.pending) m

-- what of a playback is still to be sent after m
abbrev pub playback_after : FinMap nat_cmp Client → ℕ → OwnedPlayback → OwnedPlayback
playback_after clients m p =
    record p {
      playback = record p.playback
          { events = filter (λ e. not (is_by m (event_moment clients p e))) p.playback.events };
    }

abbrev pub has_event : List DueMessage → Bool
has_event [] = false
has_event (e ∷ es) = true

abbrev pub is_left : OwnedPlayback → Bool
is_left p = has_event p.playback.events

abbrev pub port_addr : ℕ → ℕ → Addr
port_addr client port = record { client = client; node = Port port }

abbrev pub filter_addr : ℕ → ℕ → Addr
filter_addr client filter = record { client = client; node = Filter filter }

abbrev pub event_copies : State → Timed → List Delivery
event_copies s t = copies s t.moment (port_addr t.client t.port) t.message

-- A state, and what was delivered on the way to it.
pub record Settled : Type 0 where
  pub state : State
  pub delivered : List Delivery

-- the state with its pools after these copies
abbrev pub with_copies : State → List Delivery → Settled
with_copies s ds = record {
  state = record s { pools = pools_after s.pools ds };
  delivered = copies_with_room s.pools ds;
}

-- what is due by m is no longer pending
abbrev pub without_due : State → ℕ → State
without_due s m = record s { pending = filter is_left (map (playback_after s.clients m) s.pending) }

-- all that is due by m is sent, each event at its own moment
abbrev pub settle : State → ℕ → Settled
settle s m = with_copies (without_due s m) (flat_map (event_copies s) (due s m))

-- ---- the effect of a command

-- A state, what was delivered on the way to it, and the reply.
pub record Stepped : Type 0 where
  pub state : State
  pub delivered : List Delivery
  pub reply : Reply

-- the number of a client's playbacks with an event to send
abbrev pub playback_count : State → ℕ → ℕ
playback_count s c = length (filter (λ p. p.client == c) s.pending)

-- an edge goes with either of its ends
abbrev pub loses : ℕ → (Node → Bool) → Edge → Bool
loses actor gone e = ((e.source.client == actor) && gone e.source.node)
    || ((e.target.client == actor) && gone e.target.node)

-- a playback goes by itself, or with its queue
abbrev pub drops : ℕ → Effect → OwnedPlayback → Bool
drops actor effect p = ((p.client == actor) && effect.dropped p.playback)
    || ((p.queue.client == actor) && effect.queue_gone p.queue.queue)

abbrev pub pending_of : ℕ → Option QueueAddr → Playback → OwnedPlayback
pending_of actor None p =
    record { client = actor; queue = record { client = actor; queue = 0 }; playback = p }
pending_of actor (Some q) p = record { client = actor; queue = q; playback = p }

-- the state after what a command does to the actor's own
abbrev pub with_effect : State → ℕ → Option QueueAddr → Effect → State
with_effect s actor q effect =
    record {
      clients = with_entry s.clients actor effect.client;
      pools = with_entry s.pools actor (effect.pool (FinMap.get s.pools actor));
      edges = effect.edges (filter (λ e. not (loses actor effect.gone e)) s.edges);
      pending = filter (λ p. not (drops actor effect p)) s.pending
          ++ filter is_left (map (pending_of actor q) effect.added);
    }

-- the copies of all that a command sends
abbrev pub send_copies : State → ℕ → ℕ → List (ℕ × List ℕ) → List Delivery
send_copies s moment actor sends = flat_map (λ m. copies s moment (port_addr actor m.0) m.1) sends

abbrev pub with_reply : Settled → Reply → Stepped
with_reply r reply = record { state = r.state; delivered = r.delivered; reply = reply }

abbrev pub after_effect : State → ℕ → ℕ → Option QueueAddr → Effect → Stepped
after_effect s moment actor q effect =
    with_reply (with_copies (with_effect s actor q effect)
    (send_copies s moment actor effect.sends)) (effect.reply (FinMap.get s.pools actor))

-- ---- one input

-- the queue that a command names, where the actor may use it
abbrev pub named_queue : FinMap nat_cmp Client → ℕ → Option QueueAddr → Option Queue
named_queue clients actor None = None
named_queue clients actor (Some q) =
    visible actor q.client (FinMap.get (queues_of (FinMap.get clients q.client)) q.queue)

-- what a node allows, if it is there
abbrev pub caps_at : State → Addr → Option Caps
caps_at s a = node_caps (FinMap.get s.clients a.client) a.node

-- what the row of a command looks at
abbrev pub view_of : List PlayedFile → State → ℕ → ℕ → Command → CommandView
view_of files s moment actor command =
    record {
      files = files;
      moment = moment;
      actor = actor;
      client = FinMap.get s.clients actor;
      queue = named_queue s.clients actor (queue_named command);
      used = playback_count s actor;
      nodes = caps_at s;
      edges = s.edges;
    }

abbrev pub row_of : List PlayedFile → State → ℕ → ℕ → Command → Row
row_of files s moment actor command = command_row (view_of files s moment actor command) command

-- the refusal of a command, if one stands
abbrev pub refusal_of : List PlayedFile → State → ℕ → ℕ → Command → Option Refusal
refusal_of files s moment actor command =
    first_refusal (row_of files s moment actor command).conditions

-- what a command does, where none stands
abbrev pub effect_of : List PlayedFile → State → ℕ → ℕ → Command → Stepped
effect_of files s moment actor command =
    after_effect s moment actor (queue_named command) (row_of files s moment actor command).effect

-- a refusal leaves the state as it is, and is the reply
abbrev pub unless : Option Refusal → State → Stepped → Stepped
unless None s effect = effect
unless (Some r) s effect = record { state = s; delivered = []; reply = refused r }

abbrev pub command_step : List PlayedFile → State → ℕ → ℕ → Command → Stepped
command_step files s moment actor command =
    unless (refusal_of files s moment actor command) s (effect_of files s moment actor command)

-- first settling, then the command
abbrev pub step : List PlayedFile → State → Input → Stepped
step files s i =
    let settled = settle s i.moment in
    let done = command_step files settled.state i.moment i.actor i.command in
    record {
      state = done.state;
      delivered = settled.delivered ++ done.delivered;
      reply = done.reply;
    }

-- the command is refused
abbrev pub IsRefusal : Reply → Type 0
IsRefusal (Refused n) = Unit {0}
IsRefusal _ = ⊥

-- ---- a run

-- the log of the inputs, the first of which has this place, and of what is due by the end
abbrev pub log_from : List PlayedFile → State → ℕ → List Input → ℕ → List LogEntry
log_from files s place [] end = map Delivered (settle s end).delivered
log_from files s place (i ∷ inputs) end =
    map Delivered (step files s i).delivered
    ++ Replied place i.moment i.actor (step files s i).reply
    ∷ log_from files (step files s i).state (place + 1) inputs end

-- the log of a run from the beginning
abbrev pub plain : List PlayedFile → List Input → ℕ → List LogEntry
plain files inputs end = log_from files start 0 inputs end

-- the state after the inputs
abbrev pub state_after : List PlayedFile → State → List Input → State
state_after files s [] = s
state_after files s (i ∷ inputs) = state_after files (step files s i).state inputs

-- moments never fall, and the end is not before the last
abbrev pub IsTimedFrom : ℕ → List Input → ℕ → Type 0
IsTimedFrom now [] end = now ≤ end
IsTimedFrom now (i ∷ inputs) end = (now ≤ i.moment) × IsTimedFrom i.moment inputs end

abbrev pub IsTimed : List Input → ℕ → Type 0
IsTimed inputs end = IsTimedFrom 0 inputs end
