-- Worked rows: For each refusal a command that gets it for its answer.
use Rattle.std.specs.Prelude.{◌≡◌, ℕ, zero, suc, ◌-◌, ◌^◌, false, List, [], ◌∷◌, ◌++◌, map, Some, None, codes}
use Rattle.std.specs.Ordering.{nat_cmp}
use Rattle.std.specs.FinMap
use Rattle.std.specs.FinMap.{FinMap}
use Rattle.tempo_clock.specs.Entries.{smpte_word}
use Rattle.tempo_clock.specs.declared.due.Due.TheVariants.{Nanos}
use Rattle.route_filter.specs.Laws.{open_rule}
use Rattle.patch_graph.specs.Edges.{edge}
use Rattle.cell_pools.specs.Pools.{empty_pool}
use Rattle.seq_state.specs.declared.input.Command.TheVariants.{Open, Close, CreatePort, DeletePort, CreateFilter, Connect, Disconnect, CreateQueue, Start, Stop, Schedule, Play}
use Rattle.seq_state.specs.declared.input.DueAt.TheVariants as due_at
use Rattle.seq_state.specs.declared.input.Input.{Input}
use Rattle.seq_state.specs.declared.log.Reply.TheVariants.{Refused}
use Rattle.seq_state.specs.declared.refusal.Refusal.{Refusal}
use Rattle.seq_state.specs.declared.refusal.Refusal.TheVariants as refusal
use Rattle.smf_grammar.specs.Played.{PlayedFile}
use Rattle.seq_state.specs.Refusals.{number_of}
use Rattle.seq_state.specs.State.{PortInfo, FilterInfo, Queue, Client, ClientPool, State, start}
use Rattle.seq_state.specs.Effect.{held_queue, one_tempo}
use Rattle.seq_state.specs.Step.{offer, step, port_addr, filter_addr}
use Rattle.seq_examples.specs.Rows.{an_input, caps_by_bits, a_queue, a_note, a_delivery, an_arrival}

-- ---- the states

abbrev pub out_port : PortInfo
out_port = record { name = codes "out"; caps = caps_by_bits 33; fed = [] }

abbrev pub in_port : PortInfo
in_port = record { name = codes "in"; caps = caps_by_bits 66; fed = [] }

abbrev pub thru : FilterInfo
thru = record { caps = caps_by_bits 99; rule = open_rule }

-- ports that others may read, with the numbers below n
abbrev pub out_ports : ℕ → FinMap nat_cmp PortInfo
out_ports zero = FinMap.empty
out_ports (suc n) = FinMap.insert (out_ports n) n out_port

-- a queue that has run from 0 since 0, and one that counts frames
abbrev pub running : Queue
running = record {
  clock = record {
    map = (held_queue (one_tempo 96 500000)).clock.map;
    time = 0;
    since = Some 0;
  };
  shared = false;
}

abbrev pub of_frames : Queue
of_frames = record {
  clock = record {
    map = record { division = smpte_word 25 40; entries = [] };
    time = 0;
    since = None;
  };
  shared = false;
}

-- a client with so many ports, two filters and four queues, and room for one event
abbrev pub player : ℕ → Client
player n =
    record {
      name = codes "a";
      in_size = 8;
      out_size = 1;
      ports = out_ports n;
      filters = FinMap.insert (FinMap.insert FinMap.empty 0 thru) 1 thru;
      queues = FinMap.insert
          (FinMap.insert (FinMap.insert
          (FinMap.insert FinMap.empty 0 (held_queue (one_tempo 96 500000))) 1 running) 2 of_frames)
          4 (held_queue (one_tempo 480 500000));
    }

abbrev pub listener : Client
listener = record {
  name = codes "b";
  in_size = 8;
  out_size = 8;
  ports = FinMap.insert FinMap.empty 0 in_port;
  filters = FinMap.empty;
  queues = FinMap.empty;
}

abbrev pub pool : ClientPool
pool = empty_pool 8

-- a player and a listener, a subscription from port to port, and one from filter to filter
abbrev pub studio : State
studio =
    record {
      clients = FinMap.insert (FinMap.insert FinMap.empty 128 (player 1)) 129 listener;
      pools = FinMap.insert (FinMap.insert FinMap.empty 128 pool) 129 pool;
      edges = edge (port_addr 128 0) (port_addr 129 0)
          ∷ edge (filter_addr 128 0) (filter_addr 128 1) ∷ [];
      pending = [];
    }

abbrev pub port_numbers : List ℕ
port_numbers = 0 ∷ 1 ∷ 2 ∷ 3 ∷ 4 ∷ 5 ∷ 6 ∷ 7 ∷ 8 ∷ 9 ∷ 10 ∷ 11 ∷ 12 ∷ 13 ∷ 14 ∷ 15 ∷ []

-- two players with sixteen ports each, all of which the listener hears
abbrev pub crowd : State
crowd =
    record {
      clients = FinMap.insert
          (FinMap.insert (FinMap.insert FinMap.empty 128 (player 16)) 129 listener) 130 (player 16);
      pools = FinMap.insert (FinMap.insert (FinMap.insert FinMap.empty 128 pool) 129 pool) 130 pool;
      edges = map (λ n. edge (port_addr 128 n) (port_addr 129 0)) port_numbers
          ++ map (λ n. edge (port_addr 130 n) (port_addr 129 0)) port_numbers;
      pending = [];
    }

-- the player has an event on a queue that is held
abbrev pub waiting_player : State
waiting_player = record studio {
  pending = record {
    client = 128;
    queue = a_queue 128 0;
    playback = record {
      port = 0;
      accepted = 0;
      events = record { due = Nanos 5; message = a_note 60 } ∷ [];
    };
  } ∷ [];
}

-- one file without events, of 480 ticks per quarter note
abbrev pub files : List PlayedFile
files =
    record { division = 480; entries = record { tick = 0; tempo = 500000 } ∷ []; events = [] } ∷ []

-- ---- the answers

abbrev pub IsRefused : State → Input → Refusal → Type 0
IsRefused s i r = (step files s i).reply ≡ Refused (number_of r)

pub record EachRefusal : Type 0 where
  pub not_open : IsRefused start (an_input 0 128 Close) refusal.NotOpen
  -- the sizes are not looked at
  pub already_open : IsRefused studio (an_input 0 128 (Open (codes "a") 0 8)) refusal.AlreadyOpen
  -- a name has no space
  pub bad_name : IsRefused start (an_input 0 128 (Open (codes "a b") 0 8)) refusal.BadName
  pub bad_size : IsRefused start (an_input 0 128 (Open (codes "a") 0 8)) refusal.BadSize
  -- the lowest note is above the highest
  pub bad_rule : IsRefused studio
      (an_input 0 128 (CreateFilter 0 (caps_by_bits 99) (record open_rule { low = 60; high = 50 })))
      refusal.BadRule
  pub node_exists : IsRefused studio
      (an_input 0 128 (CreatePort 0 (codes "out") (caps_by_bits 33))) refusal.NodeExists
  pub no_node : IsRefused studio (an_input 0 128 (DeletePort 1)) refusal.NoNode
  -- the target is not there either
  pub no_sender : IsRefused studio
      (an_input 0 128 (Connect (port_addr 128 1) (port_addr 128 2))) refusal.NoSender
  pub no_dest : IsRefused studio
      (an_input 0 128 (Connect (port_addr 128 0) (port_addr 129 1))) refusal.NoDest
  -- the source has no READ, and the target no WRITE
  pub not_permitted : IsRefused studio
      (an_input 0 128 (Connect (port_addr 129 0) (port_addr 128 0))) refusal.NotPermitted
  pub already_connected : IsRefused studio
      (an_input 0 129 (Connect (port_addr 128 0) (port_addr 129 0))) refusal.AlreadyConnected
  pub not_connected : IsRefused studio
      (an_input 0 129 (Disconnect (filter_addr 128 0) (port_addr 129 0))) refusal.NotConnected
  -- thirty-two are there already
  pub sources_full : IsRefused crowd
      (an_input 0 129 (Connect (filter_addr 128 0) (port_addr 129 0))) refusal.SourcesFull
  -- a chain of filters would come back to its beginning
  pub cycle : IsRefused studio
      (an_input 0 128 (Connect (filter_addr 128 1) (filter_addr 128 0))) refusal.Cycle
  -- the tempo is not looked at
  pub queue_exists : IsRefused studio (an_input 0 128 (CreateQueue 0 96 0)) refusal.QueueExists
  -- whether it is there or not
  pub not_yours : IsRefused studio (an_input 0 128 (Start (a_queue 129 0))) refusal.NotYours
  pub no_queue : IsRefused studio (an_input 0 128 (Start (a_queue 128 7))) refusal.NoQueue
  pub queue_running : IsRefused studio (an_input 0 128 (Start (a_queue 128 1))) refusal.QueueRunning
  pub queue_stopped : IsRefused studio (an_input 0 128 (Stop (a_queue 128 0))) refusal.QueueStopped
  pub no_file : IsRefused studio (an_input 0 128 (Play (a_queue 128 0) 0 1)) refusal.NoFile
  pub division_differs : IsRefused studio
      (an_input 0 128 (Play (a_queue 128 0) 0 0)) refusal.DivisionDiffers
  pub bad_tempo : IsRefused studio (an_input 0 128 (CreateQueue 3 96 0)) refusal.BadTempo
  -- the present of the queue is 1
  pub bad_time : IsRefused studio
      (an_input 1 128 (Schedule (a_queue 128 1) 0 (due_at.NanosAfter (2 ^ 64 - 1)) (a_note 60)))
      refusal.BadTime
  pub out_full : IsRefused waiting_player
      (an_input 0 128 (Schedule (a_queue 128 0) 0 (due_at.Nanos 9) (a_note 60))) refusal.OutFull

-- a full pool whose count of lost messages has come to its greatest value stays as it is
abbrev pub worn_out : ClientPool
worn_out =
    record {
      size = 1;
      waiting = an_arrival 0 0 (a_note 60) ∷ [];
      lost = 18446744073709551615;
      listening = None;
    }

abbrev pub LostStays : Type 0
LostStays = offer (Some worn_out) (a_delivery 1 128 0 (a_note 61)) ≡ Some worn_out
