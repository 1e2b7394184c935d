-- Worked rows: What becomes of a few messages on the ways from a port.
use Rattle.std.specs.Prelude.{◌≡◌, ℕ, pos, List, [], ◌∷◌, codes, None}
use Rattle.std.specs.Ordering.{nat_cmp}
use Rattle.std.specs.FinMap
use Rattle.std.specs.FinMap.{FinMap}
use Rattle.node_table.specs.declared.number.Addr.{Addr}
use Rattle.node_table.specs.declared.number.Node.TheVariants.{Port, Filter}
use Rattle.patch_graph.specs.declared.edge.Edge.{Edge}
use Rattle.seq_state.specs.declared.log.Arrival.{Arrival}
use Rattle.seq_state.specs.State.{FilterInfo, Client, ClientPool}
use Rattle.seq_clients.specs.Roster.{Roster}
use Rattle.way_fates.specs.declared.stop.Stop.TheVariants as stop
use Rattle.way_fates.specs.declared.fate.Fate.{Fate}
use Rattle.way_fates.specs.declared.fate.Fate.TheVariants.{Stopped, Arrives, Lost}
use Rattle.way_fates.specs.declared.fate.WayFate.{WayFate}
use Rattle.way_fates.specs.Counts.{way_count}
use Rattle.way_fates.specs.Fates.{fates}

-- notes of the first channel from 60 to 120, an octave up
abbrev pub octave_up : FilterInfo
octave_up =
    record {
      caps = record { 0 = 3 };
      rule =
          record {
            channels = 1;
            kinds = record { 0 = 3 };
            low = 60;
            high = 120;
            shift = pos 12;
            channel = None;
          };
    }

-- all but notes above 80
abbrev pub not_high : FilterInfo
not_high =
    record {
      caps = record { 0 = 3 };
      rule =
          record {
            channels = 65535;
            kinds = record { 0 = 1023 };
            low = 0;
            high = 80;
            shift = pos 0;
            channel = None;
          };
    }

abbrev pub client_of : ℕ → FinMap nat_cmp FilterInfo → Client
client_of in_size filters =
    record {
      name = codes "keys";
      in_size = in_size;
      out_size = 1;
      ports = FinMap.empty;
      filters = filters;
      queues = FinMap.empty;
    }

abbrev pub filters_there : FinMap nat_cmp FilterInfo
filters_there = FinMap.insert (FinMap.insert FinMap.empty 0 octave_up) 1 not_high

abbrev pub pool_of : List Arrival → ClientPool
pool_of waiting = record { size = 1; waiting = waiting; lost = 0; listening = None }

-- client 129 has a pool for one message, in which these wait
abbrev pub two_clients : List Arrival → Roster
two_clients waiting =
    record {
      clients = FinMap.insert (FinMap.insert FinMap.empty 128 (client_of 10 filters_there)) 129
          (client_of 1 FinMap.empty);
      pools = FinMap.insert FinMap.empty 129 (pool_of waiting);
    }

abbrev pub port : ℕ → ℕ → Addr
port client n = record { client = client; node = Port n }

abbrev pub filter_of : ℕ → Addr
filter_of n = record { client = 128; node = Filter n }

abbrev pub joined : Addr → Addr → Edge
joined source target = record { source = source; target = target }

-- port 0 of client 128 leads through a filter to a port of client 129, and straight to another
abbrev pub two_ways : List Edge
two_ways =
    joined (filter_of 0) (port 129 0) ∷ joined (port 128 0) (filter_of 0)
    ∷ joined (port 128 0) (port 129 1) ∷ []

-- through both filters
abbrev pub one_way : List Edge
one_way =
    joined (port 128 0) (filter_of 0) ∷ joined (filter_of 0) (filter_of 1)
    ∷ joined (filter_of 1) (port 129 0) ∷ []

abbrev pub way : List Addr → Fate → WayFate
way route fate = record { route = route; fate = fate }

-- what becomes of a message on both ways
abbrev pub both : Fate → Fate → List WayFate
both filtered straight =
    way (filter_of 0 ∷ port 129 0 ∷ []) filtered ∷ way (port 129 1 ∷ []) straight ∷ []

-- where nothing waits for client 129
abbrev pub told : List ℕ → List WayFate
told message = fates (two_clients []) two_ways 7 (port 128 0) message

-- where its pool is full
abbrev pub waits : List Arrival
waits = record { moment = 3; port = 0; message = 0xF8 ∷ [] } ∷ []

abbrev pub told_full : List ℕ → List WayFate
told_full message = fates (two_clients waits) two_ways 7 (port 128 0) message

abbrev pub told_through : List ℕ → List WayFate
told_through message = fates (two_clients []) one_way 7 (port 128 0) message

pub record WorkedFates : Type 0 where
  -- 90 3C 40: the first copy takes the room
  pub both_come : told (0x90 ∷ 0x3C ∷ 0x40 ∷ []) ≡ both Arrives (Lost 1)
  -- 90 3B 40 and 90 79 40 are out of the range, and 90 78 40 is so only once it is raised
  pub below : told (0x90 ∷ 0x3B ∷ 0x40 ∷ [])
      ≡ both (Stopped (filter_of 0) (stop.NoteBelow 59 60)) Arrives
  pub above : told (0x90 ∷ 0x79 ∷ 0x40 ∷ [])
      ≡ both (Stopped (filter_of 0) (stop.NoteAbove 121 120)) Arrives
  pub shifted : told (0x90 ∷ 0x78 ∷ 0x40 ∷ [])
      ≡ both (Stopped (filter_of 0) (stop.NoteShifted 120 (pos 12))) Arrives
  pub highest : told (0x90 ∷ 0x73 ∷ 0x40 ∷ []) ≡ both Arrives (Lost 1)
  -- 91 3B 40 fails the test of its channel first, and A1 3B 40 that of its kind
  pub channel : told (0x91 ∷ 0x3B ∷ 0x40 ∷ [])
      ≡ both (Stopped (filter_of 0) (stop.Channel 1)) Arrives
  pub kind : told (0xA1 ∷ 0x3B ∷ 0x40 ∷ []) ≡ both (Stopped (filter_of 0) stop.Kind) Arrives
  -- F8
  pub clock : told (0xF8 ∷ []) ≡ both (Stopped (filter_of 0) stop.Kind) Arrives
  pub full : told_full (0x90 ∷ 0x3C ∷ 0x40 ∷ []) ≡ both (Lost 1) (Lost 1)
  pub full_below : told_full (0x90 ∷ 0x3B ∷ 0x40 ∷ [])
      ≡ both (Stopped (filter_of 0) (stop.NoteBelow 59 60)) (Lost 1)
  -- 90 45 40, note 69, comes to the second filter as note 81
  pub second : told_through (0x90 ∷ 0x45 ∷ 0x40 ∷ [])
      ≡ way (filter_of 0 ∷ filter_of 1 ∷ port 129 0 ∷ [])
      (Stopped (filter_of 1) (stop.NoteAbove 81 80)) ∷ []
  pub through_both : told_through (0x90 ∷ 0x44 ∷ 0x40 ∷ [])
      ≡ way (filter_of 0 ∷ filter_of 1 ∷ port 129 0 ∷ []) Arrives ∷ []
  pub counted : way_count two_ways (port 128 0) ≡ 2
