-- Definition: What is printed of a circle.
use Rattle.std.specs.Prelude.{◌≡◌, ◌≢◌, ◌≤◌, ℕ, Bool, true, false, List, [], ◌∷◌, ◌++◌, Option, None}
use Rattle.std.specs.List.{All, AllByRecursion}
use Rattle.byte_io.specs.Moved.{Took}
use Rattle.seq_state.specs.declared.input.Input.{Input}
use Rattle.seq_state.specs.Circle.{IsClosed}
use Rattle.seq_circle.specs.declared.members.Joined.{Joined}
use Rattle.seq_circle.specs.Least.{is_member, IsLeastCircle, NoneIsShut, places_where, opens_circle, reaches_out}
use Rattle.seq_session.specs.declared.source.Script.{Script}
use Rattle.seq_session.specs.Merging.{inputs_of, lines_of}
use Rattle.seq_session.specs.Rising.{AreRising}
use Rattle.seq_session.specs.Sessions.{FolderContents, session, script_clients}
use Rattle.session_circle.specs.declared.circle.SessionCircle.{SessionCircle}
use Rattle.session_circle.specs.declared.table.OwnedCircle.{OwnedCircle}
use Rattle.session_circle.specs.declared.table.SessionCircles.{SessionCircles}
use Rattle.session_circle.specs.Closing.{IsFirstReach, IsLogOfMembers, reach_text}
use Rattle.session_circle.specs.Found.{AreCirclesOf, IsOfEveryEnd}
use Rattle.session_circle.specs.declared.every_end.TheConstants.{NO_END}
use Rattle.session_circle.specs.EveryEnd.{IsFirstBack, AreApartForEveryEnd}
use Rattle.session_circle.specs.Laws.{NoScriptMatters, NoByteChanges, AreOutside}
use Rattle.session_circle.specs.Printed.{circle_text, table_text}
use Rattle.program_tasks.specs.declared.answer.CircleAnswer.{CircleAnswer}
use Rattle.program_tasks.specs.declared.answer.CircleAnswer.TheVariants.{Shut, Open}
use Rattle.program_tasks.specs.declared.question.CircleQuestion.{CircleQuestion}
use Rattle.program_tasks.specs.declared.question.CircleQuestion.TheVariants.{Of, OfAll}
use Rattle.program_tasks.specs.declared.program_fault.ProgramFault.{ProgramFault}
use Rattle.program_tasks.specs.declared.program_fault.ProgramFault.TheVariants.{GoesBack, OutOfMemory}
use Rattle.program_tasks.specs.declared.words.ScriptWord.{ScriptWord}
use Rattle.program_tasks.specs.Opened.{AreOfFiles}

-- a circle without openings is shut
abbrev pub answer_of : List ℕ → CircleAnswer
answer_of [] = Shut
answer_of (place ∷ openings) = Open

-- These clients are the others of the least circle round the owner in the session of these scripts,
-- and these the places of all its openings, and of the outcomes that strangers may change.
pub record IsCircleIn (folder : FolderContents) (end : ℕ) (scripts : List Script) (owner : ℕ)
    (joined : List Joined) (openings apart : List ℕ) : Type 0 where
  pub least : IsLeastCircle owner (inputs_of (session folder end scripts)) joined
  pub openings_are : openings
      ≡ places_where (opens_circle owner joined) (inputs_of (session folder end scripts))
  pub apart_are : apart
      ≡ places_where (reaches_out owner joined) (inputs_of (session folder end scripts))

-- The circle that was found is the least round the owner in the session of these scripts, with all
-- that is said of it below.
pub record IsCircleFound (folder : FolderContents) (end : ℕ) (scripts : List Script) (owner : ℕ)
    (found : SessionCircle) : Type 0 where
  pub inputs : found.merged.inputs ≡ inputs_of (session folder end scripts)
  pub lines : found.merged.lines ≡ lines_of (session folder end scripts)
  pub is : IsCircleIn folder end scripts owner found.circle.joined.items
      found.circle.openings.items found.circle.apart.items
  pub shut : found.circle.openings.items ≡ []
      → NoScriptMatters folder end scripts owner (is_member owner found.circle.joined.items)
  pub outside : AreOutside folder end scripts owner
      (is_member owner found.circle.joined.items)
      (lines_of (session folder end scripts)) found.circle.apart.items
  pub every_byte : found.circle.openings.items ≡ [] → found.circle.apart.items ≡ []
      → NoByteChanges folder end scripts owner (is_member owner found.circle.joined.items)
  pub none_is_shut : found.circle.openings.items ≢ []
      → NoneIsShut owner (inputs_of (session folder end scripts))
  pub every_end : end ≡ NO_END → found.circle.openings.items ≡ [] → (e : ℕ) → e ≤ NO_END
      → NoScriptMatters folder e scripts owner (is_member owner found.circle.joined.items)
  pub every_end_byte : end ≡ NO_END → found.circle.openings.items ≡ []
      → found.circle.apart.items ≡ [] → (e : ℕ) → e ≤ NO_END
      → NoByteChanges folder e scripts owner (is_member owner found.circle.joined.items)
  pub every_end_apart : end ≡ NO_END
      → AreApartForEveryEnd folder scripts owner (is_member owner found.circle.joined.items)

-- behind the text of a circle, where it is asked for in its session: whether it is closed there
abbrev pub in_session_text : Bool → List ℕ → List Input → Option ℕ → List ℕ
in_session_text true lines inputs first = reach_text lines inputs first
in_session_text false lines inputs first = []

-- The text and the answer are those of the least circle round the owner. Where it is shut, no
-- script of a stranger changes the owner's log, but for the outcomes that the text names; and where
-- it names none, none changes a byte. Where it is open, no circle round the owner is shut. Of a
-- session without an end the same is so for every end, and until none are there more such outcomes.
-- Where it is asked for in its session, the text says last whether it is closed in the run of these
-- very scripts: then the owner's log is that of the members' scripts alone.
pub record IsCircleTold (folder : FolderContents) (end : ℕ) (scripts : List Script) (owner : ℕ)
    (in_session : Bool) (answer : CircleAnswer) (text : List ℕ) : Type 0 where
  pub joined : List Joined
  pub openings : List ℕ
  pub apart : List ℕ
  pub first : Option ℕ
  pub is : IsCircleIn folder end scripts owner joined openings apart
  pub text_is : text
      ≡ circle_text owner scripts (lines_of (session folder end scripts))
      (inputs_of (session folder end scripts)) joined apart openings
      ++ in_session_text in_session (lines_of (session folder end scripts))
      (inputs_of (session folder end scripts)) first
  pub answer_is : answer ≡ answer_of openings
  pub shut : answer ≡ Shut → NoScriptMatters folder end scripts owner (is_member owner joined)
  pub outside : AreOutside folder end scripts owner (is_member owner joined)
      (lines_of (session folder end scripts)) apart
  pub every_byte : answer ≡ Shut → apart ≡ []
      → NoByteChanges folder end scripts owner (is_member owner joined)
  pub none_is_shut : answer ≡ Open → NoneIsShut owner (inputs_of (session folder end scripts))
  pub every_end : end ≡ NO_END → answer ≡ Shut → (e : ℕ) → e ≤ NO_END
      → NoScriptMatters folder e scripts owner (is_member owner joined)
  pub every_end_byte : end ≡ NO_END → answer ≡ Shut → apart ≡ [] → (e : ℕ) → e ≤ NO_END
      → NoByteChanges folder e scripts owner (is_member owner joined)
  pub every_end_apart : end ≡ NO_END
      → AreApartForEveryEnd folder scripts owner (is_member owner joined)
  pub reach : in_session ≡ true → IsFirstReach folder.files owner (is_member owner joined)
      (inputs_of (session folder end scripts)) first
  pub closed : in_session ≡ true → first ≡ None
      → IsClosed folder.files owner (is_member owner joined)
      (inputs_of (session folder end scripts))
  pub not_closed : in_session ≡ true → first ≢ None
      → IsClosed folder.files owner (is_member owner joined)
      (inputs_of (session folder end scripts)) → ⊥
  pub alone : in_session ≡ true → first ≡ None
      → IsLogOfMembers folder end scripts owner (is_member owner joined)

-- ---- the circles round all clients

-- The circles that were found are the least round the clients of the scripts in the session of
-- these, with all that is said of them below.
pub record AreCirclesFound (folder : FolderContents) (end : ℕ) (scripts : List Script)
    (found : SessionCircles) : Type 0 where
  pub inputs : found.merged.inputs ≡ inputs_of (session folder end scripts)
  pub lines : found.merged.lines ≡ lines_of (session folder end scripts)
  pub are : AreCirclesOf folder end scripts found.circles.items
  pub every_end : end ≡ NO_END
      → AllByRecursion (λ c. IsOfEveryEnd folder scripts c.owner c.circle) found.circles.items

-- The text has a line for the least circle round the client of each script, and the answer is
-- whether each of these is shut. Of a session without an end, what is said of each is so for every
-- end.
pub record AreCirclesTold (folder : FolderContents) (end : ℕ) (scripts : List Script)
    (answer : CircleAnswer) (text : List ℕ) : Type 0 where
  pub circles : List OwnedCircle
  pub are : AreCirclesOf folder end scripts circles
  pub text_is : text
      ≡ table_text (lines_of (session folder end scripts)) (inputs_of (session folder end scripts))
      circles
  pub shut : answer ≡ Shut → All (λ c. c.circle.openings.items ≡ []) circles
  pub not_all : answer ≡ Open → All (λ c. c.circle.openings.items ≡ []) circles → ⊥
  pub every_end : end ≡ NO_END
      → AllByRecursion (λ c. IsOfEveryEnd folder scripts c.owner c.circle) circles

-- ---- what is asked

-- the text and the answer are those of the circles that are asked for
abbrev pub AreAnswersTold : FolderContents → ℕ → List Script → CircleQuestion → CircleAnswer
    → List ℕ → Type 0
AreAnswersTold folder end scripts (Of owner in_session) answer text =
    IsCircleTold folder end scripts owner in_session answer text
AreAnswersTold folder end scripts OfAll answer text = AreCirclesTold folder end scripts answer text

-- The scripts were read from the files that the words name, the sink took the text of the circles
-- that are asked for in the session of just these, and the answer is theirs.
pub record IsCirclePrinted {R W : Type 0} (IsOpened : List ℕ → R → Type 0)
    (HasLeft : R → List ℕ → Type 0)
    (HasTaken : W → List ℕ → Type 0) (folder : FolderContents) (end : ℕ) (words : List ScriptWord)
    (question : CircleQuestion) (answer : CircleAnswer) (old new : W) : Type 0 where
  pub scripts : List Script
  pub read : AreOfFiles IsOpened HasLeft words scripts
  pub rising : AreRising (script_clients scripts)
  pub text : List ℕ
  pub told : AreAnswersTold folder end scripts question answer text
  pub took : Took HasTaken old text new

-- ---- lines that go back in time

-- The scripts were read from the files that the words name, and of their lines this is the first
-- that goes back in time, in a session without an end.
pub record IsBackInTime {R : Type 0} (IsOpened : List ℕ → R → Type 0)
    (HasLeft : R → List ℕ → Type 0)
    (folder : FolderContents) (end : ℕ) (words : List ScriptWord) (client line : ℕ) : Type 0 where
  pub scripts : List Script
  pub read : AreOfFiles IsOpened HasLeft words scripts
  pub endless : end ≡ NO_END
  pub first : IsFirstBack folder scripts client line

-- a line goes back in time
abbrev pub IsOfTime : {R : Type 0} → (List ℕ → R → Type 0) → (R → List ℕ → Type 0) →
    FolderContents → ℕ → List ScriptWord → ProgramFault → Type 0
IsOfTime IsOpened HasLeft folder end words (GoesBack client line) =
    IsBackInTime IsOpened HasLeft folder end words client line
IsOfTime IsOpened HasLeft folder end words _ = ⊥

-- a line of these scripts goes back in time, or out of memory
abbrev pub IsOfLines : FolderContents → ℕ → List Script → ProgramFault → Type 0
IsOfLines folder end scripts (GoesBack client line) =
    (end ≡ NO_END) × IsFirstBack folder scripts client line
IsOfLines folder end scripts OutOfMemory = Unit {0}
IsOfLines folder end scripts _ = ⊥
