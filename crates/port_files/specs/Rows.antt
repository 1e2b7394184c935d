-- Worked rows: What came to two ports, and its file, worked out by hand.
use Rattle.std.specs.Prelude.{◌≡◌, ℕ, List, [], ◌∷◌, ◌++◌}
use Rattle.node_table.specs.declared.number.PortAddr.{PortAddr}
use Rattle.seq_state.specs.declared.log.LogEntry.{LogEntry}
use Rattle.seq_state.specs.declared.log.LogEntry.TheVariants.{Delivered, Replied}
use Rattle.seq_state.specs.declared.log.Reply.TheVariants.{Done}
use Rattle.smf_grammar.specs.declared.event.Event.{Event}
use Rattle.smf_grammar.specs.Written.{written_file}
use Rattle.tempo_clock.specs.Ticks.{Tempos}
use Rattle.port_files.specs.Tracks.{recording_of, ports_file}

-- a client's port
abbrev pub a_port : ℕ → ℕ → PortAddr
a_port client port = record { client = client; port = port }

-- a message that came to a port
abbrev pub came : ℕ → PortAddr → List ℕ → LogEntry
came moment port message =
    Delivered (record { moment = moment; target = port; message = message })

-- 96 ticks per quarter note: the first lasts half a second, the others a quarter of one
abbrev pub two_tempos : Tempos
two_tempos =
    record {
      division = 96;
      entries = record { tick = 0; tempo = 500000 } ∷ record { tick = 96; tempo = 250000 } ∷ [];
    }

abbrev pub two_ports : List PortAddr
two_ports = a_port 129 0 ∷ a_port 130 1 ∷ []

-- At first a tick lasts 5,208,333 nanoseconds and a third, and from tick 96 on, at 500,000,000,
-- half of that: tick 98 comes at 505,208,334, and tick 288 at 1,000,000,000. Tick 2 comes at
-- 10,416,667. Message F8 has no place in a file.
abbrev pub entries : List LogEntry
entries =
    Replied 0 0 129 Done
    ∷ came 10416666 (a_port 130 1) (0x90 ∷ 0x3E ∷ 0x40 ∷ [])
    ∷ came 400000000 (a_port 131 0) (0x90 ∷ 0x3F ∷ 0x40 ∷ [])
    ∷ came 500000000 (a_port 129 0) (0x90 ∷ 0x3C ∷ 0x40 ∷ [])
    ∷ came 501000000 (a_port 129 0) (0xF8 ∷ [])
    ∷ came 505208333 (a_port 130 1) (0x90 ∷ 0x3E ∷ 0x00 ∷ [])
    ∷ came 1000000000 (a_port 129 0) (0xF0 ∷ 0x7D ∷ 0x01 ∷ 0xF7 ∷ []) ∷ []

abbrev pub at : ℕ → List ℕ → Event
at tick message = record { tick = tick; message = message }

-- what came to the ports, at these ticks
abbrev pub first_events : ℕ → ℕ → List Event
first_events note exclusive =
    at note (0x90 ∷ 0x3C ∷ 0x40 ∷ []) ∷ at exclusive (0xF0 ∷ 0x7D ∷ 0x01 ∷ 0xF7 ∷ []) ∷ []

abbrev pub second_events : ℕ → ℕ → List Event
second_events on off = at on (0x90 ∷ 0x3E ∷ 0x40 ∷ []) ∷ at off (0x90 ∷ 0x3E ∷ 0x00 ∷ []) ∷ []

-- format 1, three tracks, 96 ticks per quarter note
abbrev pub header_bytes : List ℕ
header_bytes = 0x4D ∷ 0x54 ∷ 0x68 ∷ 0x64 ∷ 0 ∷ 0 ∷ 0 ∷ 6 ∷ 0 ∷ 1 ∷ 0 ∷ 3 ∷ 0 ∷ 0x60 ∷ []

-- 18 bytes: half a second per quarter note, 96 ticks later a quarter of one, and the end
abbrev pub tempo_bytes : List ℕ
tempo_bytes =
    0x4D ∷ 0x54 ∷ 0x72 ∷ 0x6B ∷ 0 ∷ 0 ∷ 0 ∷ 18 ∷ 0 ∷ 0xFF ∷ 0x51 ∷ 3 ∷ 0x07 ∷ 0xA1 ∷ 0x20
    ∷ 0x60 ∷ 0xFF ∷ 0x51 ∷ 3 ∷ 0x03 ∷ 0xD0 ∷ 0x90 ∷ 0 ∷ 0xFF ∷ 0x2F ∷ 0 ∷ []

-- 25 bytes: the name `129:p0`, a note 96 ticks later, an exclusive message after 192 more, in two
-- bytes, and the end
abbrev pub first_bytes : List ℕ
first_bytes =
    0x4D ∷ 0x54 ∷ 0x72 ∷ 0x6B ∷ 0 ∷ 0 ∷ 0 ∷ 25
    ∷ 0 ∷ 0xFF ∷ 0x03 ∷ 6 ∷ 0x31 ∷ 0x32 ∷ 0x39 ∷ 0x3A ∷ 0x70 ∷ 0x30
    ∷ 0x60 ∷ 0x90 ∷ 0x3C ∷ 0x40 ∷ 0x81 ∷ 0x40 ∷ 0xF0 ∷ 3 ∷ 0x7D ∷ 0x01 ∷ 0xF7
    ∷ 0 ∷ 0xFF ∷ 0x2F ∷ 0 ∷ []

-- 21 bytes: the name `130:p1`, a note after one tick, its end 96 later with the running status, and
-- the end
abbrev pub second_bytes : List ℕ
second_bytes =
    0x4D ∷ 0x54 ∷ 0x72 ∷ 0x6B ∷ 0 ∷ 0 ∷ 0 ∷ 21
    ∷ 0 ∷ 0xFF ∷ 0x03 ∷ 6 ∷ 0x31 ∷ 0x33 ∷ 0x30 ∷ 0x3A ∷ 0x70 ∷ 0x31
    ∷ 0x01 ∷ 0x90 ∷ 0x3E ∷ 0x40 ∷ 0x60 ∷ 0x3E ∷ 0x00 ∷ 0 ∷ 0xFF ∷ 0x2F ∷ 0 ∷ []

pub record WorkedPorts : Type 0 where
  pub first : recording_of two_tempos (a_port 129 0) entries ≡ first_events 96 288
  pub second : recording_of two_tempos (a_port 130 1) entries ≡ second_events 1 97
  pub file : written_file (ports_file two_tempos two_ports entries)
      ≡ header_bytes ++ tempo_bytes ++ first_bytes ++ second_bytes
