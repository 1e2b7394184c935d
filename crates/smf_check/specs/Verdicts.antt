-- Definition: The verdict on a file.
use Rattle.std.specs.Prelude.{◌≡◌, ◌||◌, ℕ, Bool, true, false, List, [], ◌++◌, Option, Some, None, is_some, Result, Ok, Err, codes}
use Rattle.file_store.specs.declared.standing.Standing.{Standing}
use Rattle.folder_files.specs.Contents.{IsContent}
use Rattle.folder_files.specs.Unread.{unread_text}
use Rattle.smf_grammar.specs.Faults.{fault_text}
use Rattle.smf_grammar.specs.Files.{MidiFile, IsFile, Fault}
use Rattle.smf_mend.specs.declared.forgiven.Forgiven as counted
use Rattle.smf_mend.specs.declared.forgiven.Mended.{Mended}
use Rattle.smf_mend.specs.declared.told.Lenience.{Lenience}
use Rattle.smf_mend.specs.declared.told.Lenience.TheVariants.{RunningStatus, ProgramChange}
use Rattle.smf_mend.specs.Unwrapping.{IsMendedIn, IsRefusedIn}
use Rattle.smf_mend.specs.Told.{forgiven_text}
use Rattle.smf_check.specs.declared.verdict.Verdict.{Verdict}
use Rattle.smf_check.specs.declared.verdict.Verdict.TheVariants.{Whole, Forgiven, Damaged, Unread}

-- ---- by the lenient grammar

-- What is in these bytes is a file by the lenient grammar, and this is forgiven of it.
pub record IsForgiven (bytes : List ℕ) (status program : Option counted.Forgiven) : Type 0 where
  pub m : Mended
  pub mended : IsMendedIn bytes m
  pub status_is : m.running_status ≡ status
  pub program_is : m.high_data ≡ program

-- ---- by either

-- What was read of a file is a Standard MIDI File, or has this fault; or it could not be read, and
-- this stands at its path. By the lenient grammar it may be one of which something is forgiven.
abbrev pub IsVerdict : Bool → Result (List ℕ) Standing → Verdict → Type 0
IsVerdict false (Ok bytes) Whole = (file : MidiFile) × IsFile bytes file
IsVerdict false (Ok bytes) (Damaged fault) = Fault bytes fault
IsVerdict true (Ok bytes) Whole = IsForgiven bytes None None
IsVerdict true (Ok bytes) (Forgiven status program) =
    ((is_some status || is_some program) ≡ true) × IsForgiven bytes status program
IsVerdict true (Ok bytes) (Damaged fault) = IsRefusedIn bytes fault
IsVerdict lenient (Err there) (Unread standing) = standing ≡ there
IsVerdict _ _ _ = ⊥

-- The verdict is that on what was read of the file at this path, by the lenient grammar or by the
-- strict one.
pub record IsJudged {R : Type 0} (lenient : Bool) (IsOpened : List ℕ → R → Type 0)
    (HasLeft : R → List ℕ → Type 0)
    (CannotOpen : List ℕ → Type 0) (failed : R → Bool) (IsStanding : List ℕ → Standing → Type 0)
    (path : List ℕ) (verdict : Verdict) : Type 0 where
  pub content : Result (List ℕ) Standing
  pub read : IsContent IsOpened HasLeft CannotOpen failed IsStanding path content
  pub is : IsVerdict lenient content verdict

-- the file is a Standard MIDI File, by the grammar that was asked
abbrev pub finds_whole : Verdict → Bool
finds_whole Whole = true
finds_whole (Forgiven status program) = true
finds_whole (Damaged fault) = false
finds_whole (Unread there) = false

-- it is none
abbrev pub finds_damaged : Verdict → Bool
finds_damaged Whole = false
finds_damaged (Forgiven status program) = false
finds_damaged (Damaged fault) = true
finds_damaged (Unread there) = false

-- it cannot be read
abbrev pub finds_unread : Verdict → Bool
finds_unread Whole = false
finds_unread (Forgiven status program) = false
finds_unread (Damaged fault) = false
finds_unread (Unread there) = true

-- a kind of which something is forgiven, behind `ok`
abbrev pub forgiven_part : Lenience → Option counted.Forgiven → List ℕ
forgiven_part kind None = []
forgiven_part kind (Some forgiven) = codes ", " ++ forgiven_text kind forgiven

-- a verdict as it is printed: `ok`, `ok, forgiven 3 running status 6977`, `12 NoStatus 30`,
-- `cannot read: there is no such file`
abbrev pub verdict_text : Verdict → List ℕ
verdict_text Whole = codes "ok"
verdict_text (Forgiven status program) =
    codes "ok" ++ forgiven_part RunningStatus status ++ forgiven_part ProgramChange program
verdict_text (Damaged fault) = fault_text fault
verdict_text (Unread there) = codes "cannot read" ++ unread_text there
