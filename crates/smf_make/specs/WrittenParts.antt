-- Representation: What is written so far of a file that is made of lines, as the code has it.
use Rattle.std.specs.Prelude.{◌≡◌, ◌≤◌, ◌<◌, ℕ, ◌+◌, Bool, true, false, nat_le, nat_lt, ◌&&◌, IsTrue, List, [], ◌∷◌, ◌++◌, length, Option, Some, None, Ok, Err, codes}
use Rattle.smf_grammar.specs.Chunks.{most_bytes, Header}
use Rattle.smf_grammar.specs.Pairs.{Pair, running_after}
use Rattle.smf_grammar.specs.Written.{pairs_text}
use Rattle.smf_make.specs.declared.fault.Expected.{Expected}
use Rattle.smf_make.specs.declared.fault.MakeFault.TheVariants.{Line, TooLarge}
use Rattle.smf_make.specs.declared.written_part.OpenTrack.{OpenTrack}
use Rattle.smf_make.specs.declared.written_part.WrittenPart.{WrittenPart}
use Rattle.smf_make.specs.declared.written_part.WrittenPart.TheVariants as code
use Rattle.smf_make.specs.declared.written_part.LineStop.{LineStop}
use Rattle.smf_make.specs.declared.written_part.LineStop.TheVariants as stop
use Rattle.smf_make.specs.SaidFiles.{BegunFile, Unheaded, Between, Within, expected_next, front_text, begun_text, begun_after}

-- ---- what is written so far

-- the running status after pairs
abbrev pub running_end : Option ℕ → List Pair → Option ℕ
running_end running [] = running
running_end running (p ∷ ps) = running_end (running_after p.event) ps

-- these bytes are a header and whole tracks
pub record IsBetweenTracks (bytes : List ℕ) (tracks whole : ℕ) (h : Header)
    (done : List (List Pair)) : Type 0 where
  pub written : bytes ≡ front_text h done
  pub counted : h.tracks ≡ tracks
  pub ended : length done ≡ whole
  pub within : whole ≤ tracks
  pub small : length bytes ≤ most_bytes

-- these bytes are a header, whole tracks, and a chunk with no length yet and the first pairs of a
-- track
pub record IsWithinTrack (bytes : List ℕ) (track : OpenTrack) (h : Header)
    (done : List (List Pair)) (ps : List Pair) (tick : ℕ) : Type 0 where
  pub written : bytes ≡ front_text h done ++ (codes "MTrk" ++ 0 ∷ 0 ∷ 0 ∷ 0 ∷ [])
      ++ pairs_text None ps
  pub start : length (front_text h done) + 8 ≡ track.start
  pub counted : h.tracks ≡ track.tracks
  pub ended : length done ≡ track.ended
  pub within : track.ended < track.tracks
  pub running : running_end None ps ≡ track.running
  pub last : tick ≡ track.last
  pub small : length bytes ≤ most_bytes

-- these bytes are this part of a file, and what it is begun with
abbrev pub IsPartOf : List ℕ → WrittenPart → BegunFile → Type 0
IsPartOf bytes code.Unheaded Unheaded = bytes ≡ []
IsPartOf bytes (code.Between tracks ended) (Between h done) =
    IsBetweenTracks bytes tracks ended h done
IsPartOf bytes (code.Within track) (Within h done ps last) =
    IsWithinTrack bytes track h done ps last
IsPartOf bytes part begun = ⊥

-- in a track, its chunk's length stands before its content, and the header counts it
abbrev pub is_placed : List ℕ → WrittenPart → Bool
is_placed bytes code.Unheaded = true
is_placed bytes (code.Between tracks ended) = true
is_placed bytes (code.Within track) =
    nat_le 8 track.start && (nat_le track.start (length bytes) && nat_lt track.ended track.tracks)

-- the next line has to say this, whatever the file is begun with
abbrev pub Expects : WrittenPart → Expected → Type 0
Expects part expect =
    (bytes : List ℕ) (begun : BegunFile) → IsPartOf bytes part begun → expect ≡ expected_next begun

-- ---- one more line

-- these bytes are the part that a line made, with no more of them than a file has
abbrev pub IsLineMade : List ℕ → WrittenPart → Option BegunFile → Type 0
IsLineMade bytes part None = ⊥
IsLineMade bytes part (Some begun) =
    IsPartOf bytes part begun × IsTrue (nat_le (length (begun_text begun)) most_bytes)

-- why a line is not taken that would make this
abbrev pub IsStoppedLine : LineStop → Option BegunFile → Type 0
IsStoppedLine stop.Unexpected made = made ≡ None
IsStoppedLine stop.TooLarge None = ⊥
IsStoppedLine stop.TooLarge (Some begun) = nat_le (length (begun_text begun)) most_bytes ≡ false
IsStoppedLine stop.OutOfMemory made = Unit {0}

-- what a line, whatever its number, makes of what a file is begun with
pub record IsAfterLine (begun : BegunFile) (line bytes : List ℕ) (part : WrittenPart) : Type 0 where
  pub next : BegunFile
  pub after : (number : ℕ) → begun_after number begun line ≡ Ok next
  pub holds : IsPartOf bytes part next

-- a line, whatever its number, has this fault
abbrev pub IsLineFault : LineStop → BegunFile → List ℕ → Type 0
IsLineFault stop.Unexpected begun line =
    (number : ℕ) → begun_after number begun line ≡ Err (Line number (expected_next begun))
IsLineFault stop.TooLarge begun line =
    (number : ℕ) → begun_after number begun line ≡ Err (TooLarge number)
IsLineFault stop.OutOfMemory begun line = Unit {0}
