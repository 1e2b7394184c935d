-- A session that was recorded, or was not, as words say it.
use Rattle.std.proofs.Common.{◌⊎◌, ℕ, Bool, List, Result, Ok, Err, inr}
use Rattle.std.specs.Prelude.{IfErr, IfOk}
use Rattle.clap.specs.declared.parser.matches.Found.{Found}
use Rattle.file_store.specs.declared.standing.Standing.{Standing}
use Rattle.program_tasks.specs.declared.ending.Ended.{Ended}
use Rattle.program_tasks.specs.declared.program_fault.ProgramFault.{ProgramFault}
use Rattle.program_tasks.specs.declared.recording.Recording.{Recording}
use Rattle.program_tasks.specs.declared.session.Session.{Session}
use Rattle.midiseq.specs.Given.{IsGiven, IsRecordingGiven, EndsRecorded, RecordsAsGiven}
use Rattle.midiseq.specs.Refused.{IsOfSessionWords, IsOfRecordingWords, IsNotRecorded, IsRecordStopped}

module _ {R V N : Type 0} (IsOpened : List ℕ → R → Type 0) (HasLeft : R → List ℕ → Type 0) (CannotOpen CannotList : List ℕ → Type 0) (failed : R → Bool) (IsStanding : List ℕ → Standing → Type 0) (HasNames : List ℕ → List (List ℕ) → Type 0)
    (AreOne : List ℕ → List ℕ → Type 0) (IsBegun : List ℕ → V → Type 0) (HasWritten : V → List ℕ → Type 0) (IsStored : List ℕ → V → Type 0) (writer_failed takes_some : V → Bool) (CannotBegin CannotStore : List ℕ → Type 0)
    (HasTold : N → List ℕ → Type 0) (found : Found) (session : Session) (given : IsGiven found session) (before after : N) where
  pub as_given : (r : Result Ended ProgramFault) (recording : Recording) → IfOk r (EndsRecorded IsOpened HasLeft CannotOpen failed IsStanding HasNames IsBegun HasWritten IsStored HasTold found session recording before after) →
      IsRecordingGiven IsOpened HasLeft found recording → IfOk r (RecordsAsGiven IsOpened HasLeft CannotOpen failed IsStanding HasNames IsBegun HasWritten IsStored HasTold found before after)
  as_given (Ok ended) recording recorded is = record { session = session; given = given; recording = recording; given_recording = is; recorded = recorded }
  as_given (Err e) recording recorded is = tt

  pub stopped_as_given : (r : Result Ended ProgramFault) (recording : Recording) →
      IfErr r (IsNotRecorded IsOpened HasLeft CannotOpen CannotList failed IsStanding HasNames AreOne IsBegun writer_failed takes_some CannotBegin CannotStore HasTold found session recording before after) →
      IsRecordingGiven IsOpened HasLeft found recording →
      IfErr r (λ e. IsOfSessionWords found e ⊎ (IsOfRecordingWords IsOpened HasLeft CannotOpen failed found e ⊎ IsRecordStopped IsOpened HasLeft CannotOpen CannotList failed IsStanding HasNames AreOne IsBegun writer_failed takes_some CannotBegin CannotStore HasTold found before after e))
  stopped_as_given (Ok ended) recording why is = tt
  stopped_as_given (Err e) recording why is = inr (inr (record { session = session; given = given; recording = recording; given_recording = is; why = why }))
