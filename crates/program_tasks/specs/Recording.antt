-- Definition: What a file of a port's messages says.
use Rattle.std.specs.Prelude.{ℕ, List, [], ◌∷◌, Option}
use Rattle.node_table.specs.declared.number.PortAddr.{PortAddr}
use Rattle.seq_state.specs.declared.log.LogEntry.{LogEntry}
use Rattle.port_files.specs.Tracks as tracks
use Rattle.smf_grammar.specs.declared.event.Event.{Event}
use Rattle.smf_grammar.specs.Texts.{file_text}
use Rattle.tempo_clock.specs.Ticks.{Tempos}

-- ticks per quarter note
abbrev pub recording_ppq : ℕ
recording_ppq = 480

-- microseconds per quarter note
abbrev pub recording_tempo : ℕ
recording_tempo = 500000

-- 960 ticks a second
abbrev pub recording_clock : Tempos
recording_clock =
    record {
      division = recording_ppq;
      entries = record { tick = 0; tempo = recording_tempo } ∷ [];
    }

-- the event of an entry, where it came to this port
abbrev pub recorded_event : PortAddr → LogEntry → Option Event
recorded_event port entry = tracks.recorded_event recording_clock port entry

-- what came to a port, each at the last tick that has come by its moment
abbrev pub recording_of : PortAddr → List LogEntry → List Event
recording_of port log = tracks.recording_of recording_clock port log

-- the file of them
abbrev pub recording_text : PortAddr → List LogEntry → List ℕ
recording_text port log = file_text recording_ppq recording_tempo (recording_of port log)
