-- Worked rows: What came to a port, and its file, worked out by hand.
use Rattle.std.specs.Prelude.{◌≡◌, ℕ, List, [], ◌∷◌}
use Rattle.node_table.specs.declared.number.PortAddr.{PortAddr}
use Rattle.program_tasks.specs.Recording.{recording_of, recording_text}
use Rattle.seq_state.specs.declared.log.LogEntry.{LogEntry}
use Rattle.seq_state.specs.declared.log.LogEntry.TheVariants.{Delivered, Replied}
use Rattle.seq_state.specs.declared.log.Reply.TheVariants.{Done}
use Rattle.smf_grammar.specs.declared.event.Event.{Event}

-- a client's port
abbrev pub a_port : ℕ → ℕ → PortAddr
a_port client port = record { client = client; port = port }

-- a message that came to a port
abbrev pub came : ℕ → PortAddr → List ℕ → LogEntry
came moment port message =
    Delivered (record { moment = moment; target = port; message = message })

-- A tick lasts 1,041,666 nanoseconds and two thirds. More than half of one has passed at 600,000,
-- and of the next at 1,600,000; tick 480 comes at 500,000,000. Message FA has no place in a file.
abbrev pub entries : List LogEntry
entries =
    Replied 0 0 129 Done ∷ came 600000 (a_port 129 0) (0x90 ∷ 0x3C ∷ 0x40 ∷ [])
    ∷ came 700000 (a_port 129 1) (0x90 ∷ 0x3D ∷ 0x40 ∷ [])
    ∷ came 800000 (a_port 130 0) (0x90 ∷ 0x3E ∷ 0x40 ∷ [])
    ∷ came 1600000 (a_port 129 0) (0x80 ∷ 0x3C ∷ 0x40 ∷ [])
    ∷ came 2000000 (a_port 129 0) (0xFA ∷ [])
    ∷ came 499999999 (a_port 129 0) (0xF0 ∷ 0x7D ∷ 0x01 ∷ 0xF7 ∷ []) ∷ []

-- what came to the port, at these ticks
abbrev pub three_events : ℕ → ℕ → ℕ → List Event
three_events first second third =
    record { tick = first; message = 0x90 ∷ 0x3C ∷ 0x40 ∷ [] }
    ∷ record { tick = second; message = 0x80 ∷ 0x3C ∷ 0x40 ∷ [] }
    ∷ record { tick = third; message = 0xF0 ∷ 0x7D ∷ 0x01 ∷ 0xF7 ∷ [] } ∷ []

-- the header, the track's type and length, the tempo, the three events, and the end of the track
abbrev pub three_events_file : List ℕ
three_events_file =
    0x4D ∷ 0x54 ∷ 0x68 ∷ 0x64 ∷ 0 ∷ 0 ∷ 0 ∷ 6 ∷ 0 ∷ 0 ∷ 0 ∷ 1 ∷ 0x01 ∷ 0xE0
    ∷ 0x4D ∷ 0x54 ∷ 0x72 ∷ 0x6B ∷ 0 ∷ 0 ∷ 0 ∷ 26 ∷ 0 ∷ 0xFF ∷ 0x51 ∷ 3 ∷ 0x07 ∷ 0xA1 ∷ 0x20
    ∷ 0 ∷ 0x90 ∷ 0x3C ∷ 0x40 ∷ 1 ∷ 0x80 ∷ 0x3C ∷ 0x40 ∷ 0x83 ∷ 0x5E ∷ 0xF0 ∷ 3 ∷ 0x7D ∷ 0x01 ∷ 0xF7
    ∷ 0 ∷ 0xFF ∷ 0x2F ∷ 0 ∷ []

pub record WorkedRecording : Type 0 where
  pub events : recording_of (a_port 129 0) entries ≡ three_events 0 1 479
  pub file : recording_text (a_port 129 0) entries ≡ three_events_file
