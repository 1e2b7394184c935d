-- Representation: What a file keeps of the bytes that it was read from.
use Rattle.std.specs.Prelude.{◌≡◌, ◌<◌, ◌^◌, ◌/◌, ◌%◌, ℕ, Bool, List, [], length, map, Ok, Err, is_ok, nat_le, ◌&&◌, if◌then◌else◌, IsTrue}
use Rattle.std.specs.List.{list_all}
use Rattle.tempo_clock.specs.declared.entry.TempoEntry.{TempoEntry}
use Rattle.tempo_clock.specs.Entries.{is_tempo, is_ppq}
use Rattle.tempo_clock.specs.Ticks.{Tempos}
use Rattle.smf_grammar.specs.Pairs.{Pair}
use Rattle.smf_grammar.specs.Chunks.{most_bytes, is_frame_division, is_whole_rate}
use Rattle.smf_grammar.specs.Files.{MidiFile}
use Rattle.smf_grammar.specs.Contents.{entries_of, skipped_of}
use Rattle.smf_grammar.specs.Reading.{Pairs, pairs_of}

abbrev pub pairs_or_none : Pairs → List Pair
pairs_or_none (Ok pairs) = pairs
pairs_or_none (Err stop) = []

-- the pairs of the content of a track
abbrev pub pairs_seen : List ℕ → List Pair
pairs_seen content = pairs_or_none (pairs_of content)

-- the file with these contents of its tracks
abbrev pub file_seen : ℕ → ℕ → List (List ℕ) → MidiFile
file_seen format division contents =
    record { format = format; division = division; tracks = map pairs_seen contents }

-- a content is a track, of no more bytes than a file
abbrev pub is_track : List ℕ → Bool
is_track content = is_ok (pairs_of content) && nat_le (length content) most_bytes

-- a division that a header may have: whole frames per second with ticks in each, or ticks per
-- quarter note
abbrev pub is_division : ℕ → Bool
is_division division =
    if is_frame_division division then (is_whole_rate (division / 256) && nat_le 1 (division % 256))
    else is_ppq division

-- all tempos are in range
abbrev pub are_tempos : List TempoEntry → Bool
are_tempos entries = list_all (λ e. is_tempo e.tempo) entries

-- what is kept beside the contents is what the file says
pub record IsFileKept (f : MidiFile) (contents : List (List ℕ)) (tempos : Tempos)
    (skipped : ℕ) : Type 0 where
  pub tracks : IsTrue (list_all is_track contents)
  pub few : length contents < 2 ^ 16
  pub division : IsTrue (is_division f.division)
  pub tempos_are : tempos ≡ record { division = f.division; entries = entries_of f }
  pub skipped_are : skipped ≡ skipped_of f
