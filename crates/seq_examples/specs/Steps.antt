-- Worked rows: What single commands do in a state that is given.
use Rattle.std.specs.Prelude.{◌≡◌, ◌-◌, ◌^◌, ℕ, pos, false, List, [], ◌∷◌, drop, None, Some, codes}
use Rattle.std.specs.FinMap
use Rattle.tempo_clock.specs.declared.due.Due.TheVariants.{Nanos}
use Rattle.route_filter.specs.Worked.{moved_by}
use Rattle.patch_graph.specs.Edges.{edge}
use Rattle.cell_pools.specs.Pools.{empty_pool}
use Rattle.seq_state.specs.declared.input.Command.{Command}
use Rattle.seq_state.specs.declared.input.Command.TheVariants.{Open, CreatePort, Connect, CreateQueue, CreateQueueFrom, DeleteQueue, Start, Stop, Continue, Tempo, QueueStatus, Share, Schedule, Play, Send, DropOutput, Receive, PoolStatus}
use Rattle.seq_state.specs.declared.input.DueAt.TheVariants as due_at
use Rattle.seq_state.specs.declared.input.Input.{Input}
use Rattle.seq_state.specs.declared.log.Delivery.{Delivery}
use Rattle.seq_state.specs.declared.log.Reply.{Reply}
use Rattle.seq_state.specs.declared.log.Reply.TheVariants.{Done, Queue, Received, Pools}
use Rattle.seq_state.specs.declared.refusal.Refusal.TheVariants.{NotPermitted, NotYours, SourcesFull}
use Rattle.seq_state.specs.Refusals.{refused}
use Rattle.smf_grammar.specs.Played.{PlayedFile}
use Rattle.seq_state.specs.State.{PortInfo, FilterInfo, Client, ClientPool, OwnedPlayback, State}
use Rattle.seq_state.specs.Effect.{held_queue, one_tempo, public}
use Rattle.seq_state.specs.Step.{step, port_addr, filter_addr}
use Rattle.seq_examples.specs.Rows.{an_input, caps_by_bits, a_queue, a_note, a_delivery, an_arrival, song}
use Rattle.seq_examples.specs.Examples.{out_port, in_port, crowd}

-- ---- the state

-- a filter that raises notes by a fifth, and one that lets none pass below 67 and raises by an
-- octave
abbrev pub fifth : FilterInfo
fifth = record { caps = caps_by_bits 99; rule = moved_by (pos 7) }

abbrev pub high_octave : FilterInfo
high_octave = record { caps = caps_by_bits 99; rule = record (moved_by (pos 12)) { low = 67 } }

-- a client with a port, both filters, and two queues that are held at 0, of which others may use
-- the first
abbrev pub host : Client
host =
    record {
      name = codes "a";
      in_size = 8;
      out_size = 8;
      ports = FinMap.insert FinMap.empty 0 out_port;
      filters = FinMap.insert (FinMap.insert FinMap.empty 0 fifth) 1 high_octave;
      queues = FinMap.insert
          (FinMap.insert FinMap.empty 0 (public (held_queue (one_tempo 480 500000)))) 1
          (held_queue (one_tempo 480 500000));
    }

-- a client with two ports that listens
abbrev pub listener : Client
listener =
    record {
      name = codes "b";
      in_size = 2;
      out_size = 8;
      ports = FinMap.insert (FinMap.insert FinMap.empty 0 in_port) 1 in_port;
      filters = FinMap.empty;
      queues = FinMap.empty;
    }

-- a client with a port of its own and no queue
abbrev pub guest : Client
guest =
    record {
      name = codes "c";
      in_size = 1;
      out_size = 2;
      ports = FinMap.insert FinMap.empty 0 out_port;
      filters = FinMap.empty;
      queues = FinMap.empty;
    }

-- what the listener has waiting, and what found no room before
abbrev pub half_full : ClientPool
half_full =
    record { size = 2; waiting = an_arrival 3 0 (a_note 1) ∷ []; lost = 5; listening = None }

-- the host's port leads through both filters to the listener's port 0, and the guest's to its port
-- 1
abbrev pub hall : State
hall =
    record {
      clients = FinMap.insert
          (FinMap.insert (FinMap.insert FinMap.empty 128 host) 129 listener) 130 guest;
      pools =
          FinMap.insert (FinMap.insert
          (FinMap.insert FinMap.empty 128 (empty_pool 8)) 129
          half_full) 130
          (empty_pool 1);
      edges =
          edge (port_addr 128 0) (filter_addr 128 0) ∷ edge (filter_addr 128 0) (filter_addr 128 1)
          ∷ edge (filter_addr 128 1) (port_addr 129 0) ∷ edge (port_addr 130 0) (port_addr 129 1)
          ∷ [];
      pending = [];
    }

-- a port that others may write to, with NO_EXPORT
abbrev pub kept_port : PortInfo
kept_port = record { name = codes "in"; caps = caps_by_bits 194; fed = [] }

-- the listener has that port alone, and nothing is joined
abbrev pub guarded_hall : State
guarded_hall =
    record hall {
      clients =
          FinMap.insert hall.clients 129
          (record listener { ports = FinMap.insert FinMap.empty 0 kept_port });
      edges = [];
    }

-- a node with thirty-one sources: one of those that the listener of the crowd hears isn't joined
abbrev pub nearly_full : State
nearly_full = record crowd { edges = drop 1 crowd.edges }

-- an event of the guest's, and one of the host's, on the host's first queue
abbrev pub pending_event : ℕ → OwnedPlayback
pending_event client =
    record {
      client = client;
      queue = a_queue 128 0;
      playback = record {
        port = 0;
        accepted = 0;
        events = record { due = Nanos 5; message = a_note 60 } ∷ [];
      };
    }

abbrev pub both_waiting : State
both_waiting = record hall { pending = pending_event 130 ∷ pending_event 128 ∷ [] }

abbrev pub files : List PlayedFile
files = song ∷ []

-- ---- what is said of a step

abbrev pub Replies : State → Input → Reply → Type 0
Replies s i reply = (step files s i).reply ≡ reply

abbrev pub Delivers : State → Input → List Delivery → Type 0
Delivers s i ds = (step files s i).delivered ≡ ds

abbrev pub next_state : State → Input → State
next_state s i = (step files s i).state

-- a port of 128 is joined to one of 129
abbrev pub joins : Command
joins = Connect (port_addr 128 0) (port_addr 129 0)

-- ---- the steps

pub record EachStep : Type 0 where
  -- a message goes through the filters in the order of the path: 60 would not pass the second one
  -- first
  pub two_filters : Delivers hall (an_input 5 128 (Send 0 (a_note 60)))
      (a_delivery 5 129 0 (a_note 79) ∷ [])
  -- the second filter tests what the first made of it
  pub below_the_second : Delivers hall (an_input 5 128 (Send 0 (a_note 59))) []
  -- a delivery and an arrival name the port that the message came to
  pub port_one : Delivers hall (an_input 5 130 (Send 0 (a_note 60)))
      (a_delivery 5 129 1 (a_note 60) ∷ [])
  pub port_one_waits :
      FinMap.get (step files hall (an_input 5 130 (Send 0 (a_note 60)))).state.pools 129
      ≡ Some (record half_full
      { waiting = an_arrival 3 0 (a_note 1) ∷ an_arrival 5 1 (a_note 60) ∷ [] })
  -- who may use another's shared queue plays on it, schedules on it and asks what it shows
  pub play_on_shared : Replies hall (an_input 5 130 (Play (a_queue 128 0) 0 0)) Done
  pub schedule_on_shared : Replies hall
      (an_input 5 130 (Schedule (a_queue 128 0) 0 (due_at.Nanos 9) (a_note 60))) Done
  pub status_of_shared : Replies hall (an_input 5 130 (QueueStatus (a_queue 128 0)))
      (Queue false 0 0)
  -- and does nothing else to it
  pub start_of_shared : Replies hall (an_input 5 130 (Start (a_queue 128 0))) (refused NotYours)
  pub stop_of_shared : Replies hall (an_input 5 130 (Stop (a_queue 128 0))) (refused NotYours)
  pub continue_of_shared : Replies hall (an_input 5 130 (Continue (a_queue 128 0)))
      (refused NotYours)
  pub tempo_of_shared : Replies hall (an_input 5 130 (Tempo (a_queue 128 0) 250000))
      (refused NotYours)
  pub share_of_shared : Replies hall (an_input 5 130 (Share (a_queue 128 0))) (refused NotYours)
  pub delete_of_shared : Replies hall (an_input 5 130 (DeleteQueue (a_queue 128 0)))
      (refused NotYours)
  -- what a client has pending counts as its own, on whoever's queue
  pub used_by_guest : Replies both_waiting (an_input 0 130 PoolStatus) (Pools 0 0 1)
  pub used_by_host : Replies both_waiting (an_input 0 128 PoolStatus) (Pools 0 0 1)
  pub used_by_listener : Replies both_waiting (an_input 0 129 PoolStatus) (Pools 1 5 0)
  -- DropOutput drops the actor's and no other's, on whoever's queue
  pub dropped_by_guest : (step files both_waiting (an_input 0 130 DropOutput)).state.pending
      ≡ pending_event 128 ∷ []
  pub dropped_by_host : (step files both_waiting (an_input 0 128 DropOutput)).state.pending
      ≡ pending_event 130 ∷ []
  -- nobody but its owner is told of a private queue
  pub status_of_private : Replies hall (an_input 5 130 (QueueStatus (a_queue 128 1)))
      (refused NotYours)
  pub status_of_private_by_listener :
      Replies hall (an_input 5 129 (QueueStatus (a_queue 128 1))) (refused NotYours)
  -- a queue may be shared twice, and is shared then as before
  pub shared_twice : Replies hall (an_input 5 128 (Share (a_queue 128 0))) Done
  pub shared_still :
      Replies (next_state hall (an_input 5 128 (Share (a_queue 128 0))))
      (an_input 5 130 (QueueStatus (a_queue 128 0))) (Queue false 0 0)
  -- a queue that is made from a file is private
  pub made_private :
      Replies (step files hall (an_input 5 128 (CreateQueueFrom 3 0))).state
      (an_input 5 130 (QueueStatus (a_queue 128 3))) (refused NotYours)
  -- who owns neither node joins two that others may subscribe to, but not where the target alone
  -- has NO_EXPORT: there who owns either node does
  pub third_to_open :
      Replies hall (an_input 5 130 (Connect (port_addr 128 0) (port_addr 129 1))) Done
  pub third_to_kept : Replies guarded_hall (an_input 5 130 joins) (refused NotPermitted)
  pub target_to_kept : Replies guarded_hall (an_input 5 129 joins) Done
  pub source_to_kept : Replies guarded_hall (an_input 5 128 joins) Done
  -- a node has a thirty-second source, and no thirty-third
  pub last_source : Replies nearly_full (an_input 5 129 joins) Done
  pub one_source_more :
      Replies (next_state nearly_full (an_input 5 129 joins))
      (an_input 5 129 (Connect (filter_addr 128 0) (port_addr 129 0))) (refused SourcesFull)
  -- the least and the greatest of each range are taken
  pub least_sizes : Replies hall (an_input 5 131 (Open (codes "d") 1 1)) Done
  pub greatest_sizes : Replies hall (an_input 5 131 (Open (codes "d") 2000 2000)) Done
  pub longest_name : Replies hall
      (an_input 5 128 (CreatePort 1 (codes "abcdefghijklmnopqrstuvwxyz012345") (caps_by_bits 0)))
      Done
  pub least_queue : Replies hall (an_input 5 128 (CreateQueue 3 1 1)) Done
  pub greatest_queue : Replies hall (an_input 5 128 (CreateQueue 3 32767 16777215)) Done
  pub receive_one : Replies hall (an_input 5 129 (Receive 1))
      (Received (an_arrival 3 0 (a_note 1) ∷ []))
  pub receive_many : Replies hall (an_input 5 129 (Receive 2000))
      (Received (an_arrival 3 0 (a_note 1) ∷ []))
  pub greatest_time : Replies hall
      (an_input 5 128 (Schedule (a_queue 128 0) 0 (due_at.NanosAfter (2 ^ 64 - 1)) (a_note 60)))
      Done
  pub greatest_tick : Replies hall
      (an_input 5 128 (Schedule (a_queue 128 0) 0 (due_at.TickAfter (2 ^ 64 - 1)) (a_note 60))) Done
