-- Definition: The plain state: who is open, with which nodes and queues, what waits, the
-- subscriptions, and what is still to be sent.
use Rattle.std.specs.Prelude.{ℕ, Bool, List, [], Option, Some, None}
use Rattle.std.specs.Ordering.{nat_cmp}
use Rattle.std.specs.FinMap
use Rattle.std.specs.FinMap.{FinMap}
use Rattle.tempo_clock.specs.Clocks.{Clock}
use Rattle.tempo_clock.specs.declared.due.Due.{Due}
use Rattle.route_filter.specs.declared.rule_args.RuleArgs.{RuleArgs}
use Rattle.node_table.specs.declared.caps.Caps.{Caps}
use Rattle.node_table.specs.declared.number.QueueAddr.{QueueAddr}
use Rattle.cell_pools.specs.Pools as pools
use Rattle.patch_graph.specs.declared.edge.Edge.{Edge}
use Rattle.seq_state.specs.declared.log.Arrival.{Arrival}

-- A port, with what still matters of the bytes it was fed.
pub record PortInfo : Type 0 where
  pub name : List ℕ
  pub caps : Caps
  pub fed : List ℕ

pub record FilterInfo : Type 0 where
  pub caps : Caps
  pub rule : RuleArgs

-- A queue, and whether other clients may use it.
pub record Queue : Type 0 where
  pub clock : Clock
  pub shared : Bool

-- What a client has of its own, but for its input pool.
pub record Client : Type 0 where
  pub name : List ℕ
  pub in_size : ℕ
  pub out_size : ℕ
  pub ports : FinMap nat_cmp PortInfo
  pub filters : FinMap nat_cmp FilterInfo
  pub queues : FinMap nat_cmp Queue

-- a client's input pool: what waits, the oldest first, and how many messages found no room
abbrev pub ClientPool : Type 0
ClientPool = pools.Pool Arrival

-- A message that waits for its due time.
pub record DueMessage : Type 0 where
  pub due : Due
  pub message : List ℕ

-- What one Schedule or Play has still to send from a port of its client, in the order of the file,
-- and when it was accepted.
pub record Playback : Type 0 where
  pub port : ℕ
  pub accepted : ℕ
  pub events : List DueMessage

-- A playback of a client, on a queue that may be another's.
pub record OwnedPlayback : Type 0 where
  pub client : ℕ
  pub queue : QueueAddr
  pub playback : Playback

-- The open clients, their input pools, the subscriptions, oldest first, and what is pending, in the
-- order of the commands.
pub record State : Type 0 where
  pub clients : FinMap nat_cmp Client
  pub pools : FinMap nat_cmp ClientPool
  pub edges : List Edge
  pub pending : List OwnedPlayback

-- nobody is there
abbrev pub start : State
start = record { clients = FinMap.empty; pools = FinMap.empty; edges = []; pending = [] }

-- ---- what a client that may be open has

abbrev pub ports_of : Option Client → FinMap nat_cmp PortInfo
ports_of None = FinMap.empty
ports_of (Some c) = c.ports

abbrev pub filters_of : Option Client → FinMap nat_cmp FilterInfo
filters_of None = FinMap.empty
filters_of (Some c) = c.filters

abbrev pub queues_of : Option Client → FinMap nat_cmp Queue
queues_of None = FinMap.empty
queues_of (Some c) = c.queues

-- the map with this at the key, or with nothing there
abbrev pub with_entry : {X : Type 0} → FinMap nat_cmp X → ℕ → Option X → FinMap nat_cmp X
with_entry m k None = FinMap.remove m k
with_entry m k (Some x) = FinMap.insert m k x
