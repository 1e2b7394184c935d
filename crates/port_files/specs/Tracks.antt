-- Definition: What came to several ports, as a file of format 1 (Standard MIDI Files 1.0, "Track
-- Chunks" and "Meta-Events").
use Rattle.std.specs.Prelude.{ℕ, ◌-◌, Bool, ◌&&◌, ◌==◌, if◌then◌else◌, List, [], ◌∷◌, ◌++◌, map, Option, Some, None}
use Rattle.std.specs.List.{filter_map}
use Rattle.byteorder.specs.Endian.{big_bytes}
use Rattle.midi_wire.specs.Messages.{begins}
use Rattle.midi_wire.specs.Writings.{status_of, tail_of}
use Rattle.node_table.specs.declared.number.Node.TheVariants.{Port}
use Rattle.node_table.specs.declared.number.PortAddr.{PortAddr}
use Rattle.node_table.specs.Text.{addr_text}
use Rattle.seq_state.specs.declared.log.Delivery.{Delivery}
use Rattle.seq_state.specs.declared.log.LogEntry.{LogEntry}
use Rattle.seq_state.specs.declared.log.LogEntry.TheVariants.{Delivered, Replied}
use Rattle.seq_state.specs.Heard.{comes_to}
use Rattle.smf_grammar.specs.declared.event.Event.{Event}
use Rattle.smf_grammar.specs.Files.{MidiFile}
use Rattle.smf_grammar.specs.Pairs.{TrackEvent, Voice, Exclusive, Meta, Pair}
use Rattle.smf_grammar.specs.Texts.{stands_in_files}
use Rattle.tempo_clock.specs.declared.entry.TempoEntry.{TempoEntry}
use Rattle.tempo_clock.specs.Ticks.{Tempos, is_smpte, tick_at}

-- ---- what is recorded

-- a delivery that a file can hold: a message of a channel or an exclusive one
abbrev pub is_recorded : PortAddr → Delivery → Bool
is_recorded port d = comes_to port d && stands_in_files (begins (status_of d.message))

-- the event of an entry, where it came to this port: at the last tick that has come by its moment
abbrev pub recorded_event : Tempos → PortAddr → LogEntry → Option Event
recorded_event clock port (Delivered d) =
    if is_recorded port d
    then Some (record { tick = tick_at clock d.moment; message = d.message }) else None
recorded_event clock port (Replied place moment client reply) = None

-- what came to a port
abbrev pub recording_of : Tempos → PortAddr → List LogEntry → List Event
recording_of clock port entries = filter_map (recorded_event clock port) entries

-- ---- pairs

abbrev pub pair_of : ℕ → TrackEvent → Pair
pair_of delta event = record { delta = delta; event = event }

-- a message in a track: of an exclusive one what follows F0
abbrev pub track_event : List ℕ → TrackEvent
track_event message =
    if status_of message == 240 then Exclusive (tail_of message)
    else Voice (status_of message) (tail_of message)

-- events behind one another, the first so long after a tick
abbrev pub event_pairs : ℕ → List Event → List Pair
event_pairs before [] = []
event_pairs before (e ∷ events) =
    pair_of (e.tick - before) (track_event e.message) ∷ event_pairs e.tick events

-- tempos behind one another, each in the three bytes of FF 51
abbrev pub tempo_pairs : ℕ → List TempoEntry → List Pair
tempo_pairs before [] = []
tempo_pairs before (e ∷ entries) =
    pair_of (e.tick - before) (Meta 81 (big_bytes 3 e.tempo)) ∷ tempo_pairs e.tick entries

-- FF 03, the name of a track, at its start: the port, as `129:p0`
abbrev pub name_pair : PortAddr → Pair
name_pair port = pair_of 0 (Meta 3 (addr_text port.client (Port port.port)))

-- FF 2F, the end of a track, with its last event
abbrev pub end_pair : Pair
end_pair = pair_of 0 (Meta 47 [])

-- ---- tracks

-- the tempos that count: none where the division counts frames
abbrev pub tempos_of : Tempos → List TempoEntry
tempos_of clock = if is_smpte clock then [] else clock.entries

abbrev pub tempo_track : Tempos → List Pair
tempo_track clock = tempo_pairs 0 (tempos_of clock) ++ end_pair ∷ []

abbrev pub port_track : Tempos → List LogEntry → PortAddr → List Pair
port_track clock entries port =
    name_pair port ∷ event_pairs 0 (recording_of clock port entries) ++ end_pair ∷ []

-- the tempos, and a track for each port
abbrev pub ports_file : Tempos → List PortAddr → List LogEntry → MidiFile
ports_file clock ports entries =
    record {
      format = 1;
      division = clock.division;
      tracks = tempo_track clock ∷ map (port_track clock entries) ports;
    }
