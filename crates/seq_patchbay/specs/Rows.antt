-- Worked rows: A listing by hand.
use Rattle.std.specs.Prelude.{◌≡◌, ℕ, pos, negsuc, Bool, true, false, List, [], ◌∷◌, ◌++◌, codes, Option, Some, None}
use Rattle.std.specs.Ordering.{nat_cmp}
use Rattle.std.specs.FinMap
use Rattle.std.specs.FinMap.{FinMap}
use Rattle.tempo_clock.specs.Clocks.{Clock}
use Rattle.node_table.specs.declared.number.Node.{Node}
use Rattle.node_table.specs.declared.number.Node.TheVariants.{Port, Filter}
use Rattle.patch_graph.specs.declared.edge.Edge.{Edge}
use Rattle.seq_state.specs.Effect.{one_tempo}
use Rattle.cell_pools.specs.declared.listening.Listening.{Listening}
use Rattle.seq_state.specs.State.{PortInfo, FilterInfo, Queue, Client, ClientPool}
use Rattle.seq_clients.specs.Roster.{Roster}
use Rattle.seq_patchbay.specs.Listing.{listing}

abbrev pub held_clock : Clock
held_clock = record { map = one_tempo 480 500000; time = 0; since = None }

abbrev pub running_clock : Clock
running_clock = record { map = one_tempo 96 250000; time = 7; since = Some 5 }

-- ports, filters and queues, put there in no order
abbrev pub listed_in_port : PortInfo
listed_in_port = record { name = codes "in~"; caps = record { 0 = 194 }; fed = 0x90 ∷ 0x3C ∷ [] }

abbrev pub listed_out_port : PortInfo
listed_out_port = record { name = codes "out"; caps = record { 0 = 33 }; fed = [] }

abbrev pub studio_ports : FinMap nat_cmp PortInfo
studio_ports = FinMap.insert (FinMap.insert FinMap.empty 15 listed_out_port) 0 listed_in_port

abbrev pub drum_filter : FilterInfo
drum_filter =
    record {
      caps = record { 0 = 3 };
      rule = record {
        channels = 5;
        kinds = record { 0 = 3 };
        low = 36;
        high = 96;
        shift = pos 12;
        channel = Some 9;
      };
    }

abbrev pub octave_filter : FilterInfo
octave_filter =
    record {
      caps = record { 0 = 99 };
      rule =
          record {
            channels = 65535;
            kinds = record { 0 = 1023 };
            low = 0;
            high = 127;
            shift = negsuc 11;
            channel = None;
          };
    }

abbrev pub studio_filters : FinMap nat_cmp FilterInfo
studio_filters = FinMap.insert (FinMap.insert FinMap.empty 10 octave_filter) 1 drum_filter

abbrev pub listed_queue : Clock → Bool → Queue
listed_queue clock shared = record { clock = clock; shared = shared }

abbrev pub studio_queues : FinMap nat_cmp Queue
studio_queues =
    FinMap.insert (FinMap.insert
    (FinMap.insert (FinMap.insert FinMap.empty 7 (listed_queue running_clock true))
    2 (listed_queue held_clock true)) 1 (listed_queue running_clock false)) 0
    (listed_queue held_clock false)

abbrev pub listed_studio : Client
listed_studio =
    record {
      name = codes "studio";
      in_size = 2000;
      out_size = 1;
      ports = studio_ports;
      filters = studio_filters;
      queues = studio_queues;
    }

abbrev pub silent : Client
silent =
    record {
      name = codes "z";
      in_size = 1;
      out_size = 10;
      ports = FinMap.empty;
      filters = FinMap.empty;
      queues = FinMap.empty;
    }

abbrev pub everyone : FinMap nat_cmp Client
everyone = FinMap.insert (FinMap.insert FinMap.empty 191 listed_studio) 128 silent

-- the first listens, and something has come to it; the other does not
abbrev pub a_pool : Option Listening → ClientPool
a_pool listening = record { size = 1; waiting = []; lost = 0; listening = listening }

abbrev pub their_pools : FinMap nat_cmp ClientPool
their_pools =
    FinMap.insert (FinMap.insert FinMap.empty 191 (a_pool None)) 128
    (a_pool (Some (record { moment = 7; count = 1 })))

abbrev pub all_of_them : Roster
all_of_them = record { clients = everyone; pools = their_pools }

abbrev pub edge_between : Node → Node → Edge
edge_between source target =
    record {
      source = record { client = 191; node = source };
      target = record { client = 191; node = target };
    }

abbrev pub two_edges : List Edge
two_edges = edge_between (Port 15) (Filter 10) ∷ edge_between (Filter 10) (Port 0) ∷ []

abbrev pub everyone_text : List ℕ
everyone_text =
    codes "client 128 z in 1 out 10 listening\nclient 191 studio in 2000 out 1\n"
    ++ codes "port 191:p0 in~ 194\nport 191:p15 out 33\n"
    ++ codes "filter 191:f1 3 5 3 36 96 12 9\nfilter 191:f10 99 65535 1023 0 127 -12\n"
    ++ codes "queue 191:q0 stopped\nqueue 191:q1 running\nqueue 191:q2 stopped shared\n"
    ++ codes "queue 191:q7 running shared\nedge 191:p15 191:f10\nedge 191:f10 191:p0\n"

-- a line of each kind, in its place
abbrev pub WorkedListing : Type 0
WorkedListing = listing all_of_them two_edges ≡ everyone_text
