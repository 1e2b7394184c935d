-- Definition: The Standard MIDI File that a text says, or the first line that is not what was
-- expected.
use Rattle.std.specs.Prelude.{ℕ, suc, ◌-◌, ◌==◌, nat_le, nat_lt, ◌&&◌, if◌then◌else◌, List, [], ◌∷◌, ◌++◌, length, Option, Some, None, Result, Ok, Err, codes}
use Rattle.std.specs.Option.{option_map}
use Rattle.script_text.specs.Numbers.{only_if}
use Rattle.script_text.specs.Words.{is_empty, lines, without_return}
use Rattle.smf_grammar.specs.Outcomes.{◌>>=◌}
use Rattle.smf_grammar.specs.Chunks.{most_bytes, Header}
use Rattle.smf_grammar.specs.Pairs.{TrackEvent, Pair, is_end}
use Rattle.smf_grammar.specs.Files.{MidiFile}
use Rattle.smf_grammar.specs.Texts.{chunk_text}
use Rattle.smf_grammar.specs.Written.{is_quantity, pairs_text, tracks_text, header_text}
use Rattle.smf_make.specs.declared.fault.Expected.{Expected}
use Rattle.smf_make.specs.declared.fault.Expected.TheVariants as expected
use Rattle.smf_make.specs.declared.fault.MakeFault.{MakeFault}
use Rattle.smf_make.specs.declared.fault.MakeFault.TheVariants.{Line, TooLarge}
use Rattle.smf_make.specs.SaidEvents.{is_passed_over, header_said, track_said, timed_event}

-- ---- the first lines of a file

-- what the first lines of a text say
pub data BegunFile : Type 0 where
  -- nothing
  Unheaded : BegunFile
  -- a header, and whole tracks
  Between : Header → List (List Pair) → BegunFile
  -- a header, whole tracks, and the first pairs of one more, the last of which is at this tick
  Within : Header → List (List Pair) → List Pair → ℕ → BegunFile

-- what the next line has to say
abbrev pub expected_next : BegunFile → Expected
expected_next Unheaded = expected.Header
expected_next (Between h tracks) =
    if nat_lt (length tracks) h.tracks then expected.Track (length tracks) else expected.End
expected_next (Within h tracks ps last) = expected.Event last

-- a header and whole tracks, written
abbrev pub front_text : Header → List (List Pair) → List ℕ
front_text h tracks = header_text h.format h.tracks h.division ++ tracks_text tracks

-- the same with the pairs of one more track
abbrev pub begun_text : BegunFile → List ℕ
begun_text Unheaded = []
begun_text (Between h tracks) = front_text h tracks
begun_text (Within h tracks ps last) =
    front_text h tracks ++ chunk_text (codes "MTrk") (pairs_text None ps)

-- ---- one more line

-- the end of a track begins none
abbrev pub with_said_pair : Header → List (List Pair) → List Pair → ℕ → Pair → BegunFile
with_said_pair h tracks ps tick p =
    if is_end p.event then Between h (tracks ++ (ps ++ p ∷ []) ∷ [])
    else Within h tracks (ps ++ p ∷ []) tick

-- the next track of those that the header counts
abbrev pub with_track : Header → List (List Pair) → Option ℕ → Option BegunFile
with_track h tracks said =
    option_map (λ k. Within h tracks [] 0)
    (only_if (λ k. nat_lt k h.tracks && (k == length tracks)) said)

-- an event whose delta time is that from the last tick on
abbrev pub with_event :
    Header → List (List Pair) → List Pair → ℕ → Option (ℕ × TrackEvent) → Option BegunFile
with_event h tracks ps last said =
    option_map
    (λ e. with_said_pair h tracks ps e.0 (record { delta = e.0 - last; event = e.1 }))
    (only_if (λ e. nat_le last e.0 && is_quantity (e.0 - last)) said)

-- with what one more line says, where it is what was expected
abbrev pub begun_with : BegunFile → List ℕ → Option BegunFile
begun_with Unheaded line = option_map (λ h. Between h []) (header_said line)
begun_with (Between h tracks) line = with_track h tracks (track_said line)
begun_with (Within h tracks ps last) line = with_event h tracks ps last (timed_event line)

-- no more bytes than a file has, or the fault of the line with this number
abbrev pub limited : ℕ → BegunFile → Result BegunFile MakeFault
limited number begun =
    if nat_le (length (begun_text begun)) most_bytes then Ok begun else Err (TooLarge number)

abbrev pub limited_or : ℕ → Expected → Option BegunFile → Result BegunFile MakeFault
limited_or number expect None = Err (Line number expect)
limited_or number expect (Some begun) = limited number begun

-- what a file is begun with after the line with this number
abbrev pub begun_after : ℕ → BegunFile → List ℕ → Result BegunFile MakeFault
begun_after number begun line =
    if is_passed_over line then Ok begun
    else limited_or number (expected_next begun) (begun_with begun line)

-- ---- a text

-- the file that is begun, where nothing is left to say at the line with this number
abbrev pub file_begun : ℕ → BegunFile → Result MidiFile MakeFault
file_begun number Unheaded = Err (Line number (expected_next Unheaded))
file_begun number (Between h tracks) =
    if length tracks == h.tracks then
    Ok (record { format = h.format; division = h.division; tracks = tracks })
    else Err (Line number (expected_next (Between h tracks)))
file_begun number (Within h tracks ps last) =
    Err (Line number (expected_next (Within h tracks ps last)))

-- the file that these lines say, the first of which has this number, after the first lines
abbrev pub file_from : ℕ → BegunFile → List (List ℕ) → Result MidiFile MakeFault
file_from number begun [] = file_begun number begun
file_from number begun (line ∷ more) =
    begun_after number begun (without_return line) >>= λ next. file_from (suc number) next more

-- what stands after the last line end is a line where it is not empty
abbrev pub without_empty_last : List (List ℕ) → List (List ℕ)
without_empty_last [] = []
without_empty_last (line ∷ []) = if is_empty line then [] else line ∷ []
without_empty_last (line ∷ next ∷ more) = line ∷ without_empty_last (next ∷ more)

-- the file that a text says, or its fault
unfoldable pub said_file : List ℕ → Result MidiFile MakeFault
said_file text = file_from 1 Unheaded (without_empty_last (lines text))
