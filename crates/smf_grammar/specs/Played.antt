-- Definition: What a sequencer takes from a Standard MIDI File.
use Rattle.std.specs.Prelude.{ℕ, List}
use Rattle.tempo_clock.specs.declared.entry.TempoEntry.{TempoEntry}
use Rattle.smf_grammar.specs.declared.event.Event.{Event}
use Rattle.smf_grammar.specs.Files.{MidiFile}
use Rattle.smf_grammar.specs.Contents.{events_of, entries_of}

-- a file as it is played: its division word, its tempo entries, and its events in order
pub record PlayedFile : Type 0 where
  pub division : ℕ
  pub entries : List TempoEntry
  pub events : List Event

-- a file, as it is played
abbrev pub as_played : MidiFile → PlayedFile
as_played f = record { division = f.division; entries = entries_of f; events = events_of f }
