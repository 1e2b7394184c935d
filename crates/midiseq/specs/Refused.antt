-- Definition: Why a subcommand stops, from the words that it was given.
use Rattle.std.specs.Prelude.{◌≡◌, ◌≢◌, ◌⊎◌, ℕ, Bool, true, false, List, [], None, codes, unwrap_or, MatchOption}
use Rattle.std.specs.Option.{option_map}
use Rattle.clap.specs.declared.parser.matches.Found.{Found}
use Rattle.clap.specs.Matches.{first_value, matched_of, raw_values}
use Rattle.file_store.specs.declared.standing.Standing.{Standing}
use Rattle.script_text.specs.Numbers as says
use Rattle.program_tasks.specs.Grid.{IsOfGrid}
use Rattle.program_tasks.specs.declared.grid.GridWords.{GridWords}
use Rattle.program_tasks.specs.FormWords.{IsNoForm}
use Rattle.program_tasks.specs.Words.{port_named, IsOfPorts, IsOfWords}
use Rattle.program_tasks.specs.declared.log_folder.LogFolder.{LogFolder}
use Rattle.program_tasks.specs.LogFiles.{IsOfReadLog}
use Rattle.program_tasks.specs.declared.recording.Recording.{Recording}
use Rattle.program_tasks.specs.declared.session.Session.{Session}
use Rattle.program_tasks.specs.Checked.{IsCheckingStopped}
use Rattle.program_tasks.specs.Faults.{IsOfListing, IsOfScripts, IsOfOutput, IsOfWriting}
use Rattle.program_tasks.specs.Live.{IsAnsweringStopped}
use Rattle.program_tasks.specs.Made.{IsMakingStopped, IsOfOwnText}
use Rattle.program_tasks.specs.Subcommands.{IsTimeless, IsStreamingStopped, IsRecordingStopped}
use Rattle.program_tasks.specs.Why.{IsOfQuestion}
use Rattle.program_tasks.specs.declared.why_question.WhyQuestion.{WhyQuestion}
use Rattle.program_tasks.specs.Tasks.{IsToolFault}
use Rattle.program_tasks.specs.Times.{end_said, IsNoEnd}
use Rattle.program_tasks.specs.declared.end_word.EndWord.{EndWord}
use Rattle.program_tasks.specs.declared.choice.Stream.{Stream}
use Rattle.program_tasks.specs.declared.choice.DumpFlags.{DumpFlags}
use Rattle.program_tasks.specs.declared.choice.Task.{Task}
use Rattle.program_tasks.specs.declared.choice.Tool.{Tool}
use Rattle.program_tasks.specs.declared.program_fault.ProgramFault.{ProgramFault}
use Rattle.program_tasks.specs.declared.program_fault.ProgramFault.TheVariants.{NoSubcommand, NotAClient, NotAForm, NotAPort}
use Rattle.program_tasks.specs.Program.{tool_name, IsToolNamed, IsNamedBy, IsReasoned}
use Rattle.midiseq.specs.Given.{text_of, IsFlag, AreDumpFlags, IsAsked, IsEndGiven, IsGiven, IsQuestionGiven, IsLogFolderGiven, AreGridWords, IsRecordingGiven, IsOfFiles, IsOfPlainTool}

-- The word for the session's end says none.
pub record IsOfEndWord (found : Found) (fault : ProgramFault) : Type 0 where
  pub end : EndWord
  pub given : IsEndGiven found end
  pub unsaid : end_said end ≡ None
  pub told : IsNoEnd end fault

-- the words name no session: its end is not said, or some word names no script
abbrev pub IsOfSessionWords : Found → ProgramFault → Type 0
IsOfSessionWords found fault =
    IsOfEndWord found fault
    ⊎ IsOfWords (unwrap_or (option_map raw_values (matched_of found (codes "CLIENT=PATH"))) [])
    fault

-- the word names no port
abbrev pub IsNotAPort : List ℕ → ProgramFault → Type 0
IsNotAPort word (NotAPort told) = (told.now ≡ word) × (port_named word ≡ None)
IsNotAPort word _ = ⊥

module _ {R : Type 0} (IsOpened : List ℕ → R → Type 0) (HasLeft : R → List ℕ → Type 0)
    (CannotOpen : List ℕ → Type 0) (failed : R → Bool) where
  -- The words for ticks and tempos give none.
  pub record IsOfGridWords (found : Found) (fault : ProgramFault) : Type 0 where
    pub words : GridWords
    pub given : AreGridWords found words
    pub why : IsOfGrid IsOpened HasLeft CannotOpen failed words fault

  -- this word names no ports, or the words for ticks and tempos give none
  abbrev pub IsOfTrackWords : Found → ProgramFault → List ℕ → Type 0
  IsOfTrackWords found fault word = IsOfPorts word fault ⊎ IsOfGridWords found fault

  -- the words do not say what is recorded: those of --ports, and without it that of --port
  abbrev pub IsOfRecordingWords : Found → ProgramFault → Type 0
  IsOfRecordingWords found fault =
      MatchOption (first_value found (codes "ports"))
      (IsNotAPort (text_of found (codes "port")) fault) (IsOfTrackWords found fault)

-- the word is no client's number
abbrev pub IsNotAClient : List ℕ → ProgramFault → Type 0
IsNotAClient word (NotAClient told) = (told.now ≡ word) × (says.client_number word ≡ None)
IsNotAClient word _ = ⊥

-- the word names no form of logs
abbrev pub IsNotAForm : List ℕ → ProgramFault → Type 0
IsNotAForm word (NotAForm told) = (told.now ≡ word) × IsNoForm word
IsNotAForm word _ = ⊥

module _ {R V N : Type 0} (IsOpened : List ℕ → R → Type 0) (HasLeft : R → List ℕ → Type 0)
    (CannotOpen CannotList : List ℕ → Type 0) (failed : R → Bool)
    (IsStanding : List ℕ → Standing → Type 0) (HasNames : List ℕ → List (List ℕ) → Type 0)
    (AreOne : List ℕ → List ℕ → Type 0) (IsPlaced : List ℕ → Bool → V → Type 0)
    (HasWritten : V → List ℕ → Type 0) (writer_failed takes_some : V → Bool)
    (CannotPlace : List ℕ → Type 0) (stuck : Type 0) (HasTold : N → List ℕ → Type 0)
    (found : Found) (before after : N) where
  -- the word of --format names no form, or the session was not run, or not printed
  abbrev pub IsUnprinted : Session → ProgramFault → Type 0
  IsUnprinted session fault =
      IsNotAForm (text_of found (codes "format")) fault
      ⊎ (IsOfListing CannotList (option_map (λ d. d.now) session.dir) fault
      ⊎ (IsOfScripts IsOpened HasLeft CannotOpen failed session.scripts.items fault
      ⊎ IsOfOutput stuck fault))

  -- The session was not run, or its logs were not written to the folder of this word.
  pub record IsUnstreamed (session : Session) (fault : ProgramFault) (word : List ℕ)
      : Type 0 where
    pub logs : LogFolder
    pub given : IsLogFolderGiven found logs word
    pub why :
        IsOfListing CannotList (option_map (λ d. d.now) session.dir) fault
        ⊎ (IsOfReadLog AreOne logs.path.now session.scripts.items fault
        ⊎ (IsOfScripts IsOpened HasLeft CannotOpen failed session.scripts.items fault
        ⊎ (IsStreamingStopped IsOpened HasLeft CannotOpen failed IsStanding HasNames IsPlaced
        HasWritten writer_failed takes_some CannotPlace HasTold session logs before after fault
        ⊎ IsOfOutput stuck fault)))

  -- The session of the words was not run, for one of these reasons.
  pub record IsRunStopped (fault : ProgramFault) : Type 0 where
    pub session : Session
    pub given : IsGiven found session
    pub why : MatchOption (first_value found (codes "logs"))
        (IsUnprinted session fault) (IsUnstreamed session fault)

-- No circle of the session of the words was printed, for one of these reasons.
pub record IsCircleStopped {R N : Type 0} (IsOpened : List ℕ → R → Type 0)
    (HasLeft : R → List ℕ → Type 0)
    (CannotOpen CannotList : List ℕ → Type 0) (failed : R → Bool)
    (IsStanding : List ℕ → Standing → Type 0)
    (HasNames : List ℕ → List (List ℕ) → Type 0) (stuck : Type 0)
    (HasTold : N → List ℕ → Type 0) (found : Found) (before after : N)
    (fault : ProgramFault) : Type 0 where
  pub session : Session
  pub given : IsGiven found session
  pub why :
      IsOfListing CannotList (option_map (λ d. d.now) session.dir) fault
      ⊎ (IsOfScripts IsOpened HasLeft CannotOpen failed session.scripts.items fault
      ⊎ (IsTimeless IsOpened HasLeft CannotOpen failed IsStanding HasNames HasTold session before
      after fault
      ⊎ IsOfOutput stuck fault))

-- The question of the words was not answered, for one of these reasons.
pub record IsWhyStopped {R : Type 0} (IsOpened : List ℕ → R → Type 0)
    (HasLeft : R → List ℕ → Type 0) (CannotOpen CannotList : List ℕ → Type 0) (failed : R → Bool)
    (stuck : Type 0) (found : Found) (fault : ProgramFault) : Type 0 where
  pub session : Session
  pub given : IsGiven found session
  pub question : WhyQuestion
  pub asked : IsQuestionGiven found question
  pub why :
      IsOfListing CannotList (option_map (λ d. d.now) session.dir) fault
      ⊎ (IsOfQuestion session.scripts.items question fault
      ⊎ (IsOfScripts IsOpened HasLeft CannotOpen failed session.scripts.items fault
      ⊎ IsOfOutput stuck fault))

-- The session was not recorded so, for one of these reasons.
pub record IsNotRecorded {R V N : Type 0} (IsOpened : List ℕ → R → Type 0)
    (HasLeft : R → List ℕ → Type 0)
    (CannotOpen CannotList : List ℕ → Type 0) (failed : R → Bool)
    (IsStanding : List ℕ → Standing → Type 0)
    (HasNames : List ℕ → List (List ℕ) → Type 0)
    (AreOne : List ℕ → List ℕ → Type 0) (IsBegun : List ℕ → V → Type 0)
    (writer_failed takes_some : V → Bool)
    (CannotBegin CannotStore : List ℕ → Type 0) (HasTold : N → List ℕ → Type 0) (found : Found)
    (session : Session) (recording : Recording) (before after : N)
    (fault : ProgramFault) : Type 0 where
  pub explains : Bool
  pub asked : IsAsked found explains
  pub why :
      IsOfListing CannotList (option_map (λ d. d.now) session.dir) fault
      ⊎ IsRecordingStopped IsOpened HasLeft CannotOpen failed IsStanding HasNames AreOne IsBegun
      writer_failed takes_some
      CannotBegin CannotStore HasTold session recording explains before after fault

-- The session of the words was not recorded.
pub record IsRecordStopped {R V N : Type 0} (IsOpened : List ℕ → R → Type 0)
    (HasLeft : R → List ℕ → Type 0)
    (CannotOpen CannotList : List ℕ → Type 0) (failed : R → Bool)
    (IsStanding : List ℕ → Standing → Type 0)
    (HasNames : List ℕ → List (List ℕ) → Type 0)
    (AreOne : List ℕ → List ℕ → Type 0) (IsBegun : List ℕ → V → Type 0)
    (writer_failed takes_some : V → Bool)
    (CannotBegin CannotStore : List ℕ → Type 0) (HasTold : N → List ℕ → Type 0) (found : Found)
    (before after : N)
    (fault : ProgramFault) : Type 0 where
  pub session : Session
  pub given : IsGiven found session
  pub recording : Recording
  pub given_recording : IsRecordingGiven IsOpened HasLeft found recording
  pub why : IsNotRecorded IsOpened HasLeft CannotOpen CannotList failed IsStanding HasNames AreOne
      IsBegun writer_failed takes_some
      CannotBegin CannotStore HasTold found session recording before after fault

-- how a fault is told: where it is asked for, that of a path with what was seen to stand there
abbrev pub ToldWhere : (List ℕ → Standing → Type 0) → Bool → ProgramFault → ProgramFault → Type 0
ToldWhere IsStanding true fault told = IsReasoned IsStanding fault told
ToldWhere IsStanding false fault told = told ≡ fault

-- A fault is told as --strict and --explain say.
pub record IsToldAsAsked (IsStanding : List ℕ → Standing → Type 0) (found : Found)
    (fault told : ProgramFault) : Type 0 where
  pub explains : Bool
  pub asked : IsAsked found explains
  pub is : ToldWhere IsStanding explains fault told

-- There is a fault of which this holds, and it is told as --strict and --explain say.
pub record IsToldOf (IsStanding : List ℕ → Standing → Type 0) (found : Found)
    (P : ProgramFault → Type 0) (told : ProgramFault) : Type 0 where
  pub fault : ProgramFault
  pub why : P fault
  pub is : IsToldAsAsked IsStanding found fault told

-- The tool of this name and these flags stopped over the stream that FILE names.
pub record IsToolStopped {R I : Type 0} (IsOpened : List ℕ → R → Type 0)
    (CannotOpen : List ℕ → Type 0)
    (HasLeft : R → List ℕ → Type 0) (failed : R → Bool) (HasInput : I → List ℕ → Type 0)
    (input_failed : I → Bool)
    (stuck : Type 0) (name : List ℕ) (found : Found) (before after : I)
    (fault : ProgramFault) : Type 0 where
  pub task : Task
  pub flags : DumpFlags
  pub given : AreDumpFlags found flags
  pub tool : IsToolNamed task.tool name flags
  pub stream : IsNamedBy task.stream (unwrap_or (first_value found (codes "FILE")) (codes "-"))
  pub told : IsToolFault IsOpened CannotOpen HasLeft failed HasInput input_failed stuck task before
      after
      fault

-- the name is that of no tool
abbrev pub IsOfNoTool : List ℕ → ProgramFault → Type 0
IsOfNoTool name NoSubcommand = (t : Tool) → tool_name t ≢ name
IsOfNoTool name _ = ⊥

-- No file was made of the text that TEXT names, or it was not written to the file of --out.
pub record IsMakeStopped {R I W : Type 0} (IsOpened : List ℕ → R → Type 0)
    (CannotOpen : List ℕ → Type 0) (HasLeft : R → List ℕ → Type 0) (failed : R → Bool)
    (AreOne : List ℕ → List ℕ → Type 0) (IsBegun : List ℕ → W → Type 0)
    (writer_failed takes_some : W → Bool) (CannotBegin CannotStore : List ℕ → Type 0)
    (HasInput : I → List ℕ → Type 0) (input_failed : I → Bool) (found : Found)
    (before after : I) (fault : ProgramFault) : Type 0 where
  pub text : Stream
  pub named : IsNamedBy text (unwrap_or (first_value found (codes "TEXT")) (codes "-"))
  pub why : IsOfOwnText AreOne text (text_of found (codes "out")) fault
      ⊎ (IsMakingStopped IsOpened CannotOpen HasLeft failed HasInput input_failed text before after
      fault
      ⊎ IsOfWriting IsBegun writer_failed takes_some CannotBegin CannotStore
      (text_of found (codes "out")) fault)

-- Why each subcommand that takes files stops.
pub record AreFilesStopped {R I V : Type 0} (IsOpened : List ℕ → R → Type 0)
    (CannotOpen : List ℕ → Type 0) (HasLeft : R → List ℕ → Type 0) (failed : R → Bool)
    (AreOne : List ℕ → List ℕ → Type 0) (IsBegun : List ℕ → V → Type 0)
    (writer_failed takes_some : V → Bool) (CannotBegin CannotStore : List ℕ → Type 0)
    (HasInput : I → List ℕ → Type 0) (input_failed : I → Bool) (stuck : Type 0) (name : List ℕ)
    (found : Found) (before after : I) (fault : ProgramFault) : Type 0 where
  pub made : name ≡ codes "make" →
      IsMakeStopped IsOpened CannotOpen HasLeft failed AreOne IsBegun writer_failed takes_some
      CannotBegin CannotStore HasInput input_failed found before after fault
  pub checked : name ≡ codes "check" → IsCheckingStopped stuck fault
  pub tool : IsOfPlainTool name →
      IsOfNoTool name fault
      ⊎ IsToolStopped IsOpened CannotOpen HasLeft failed HasInput input_failed stuck name found
      before after fault

-- The answers to the lines stopped for a reason, once the folder of --dir was read, with --lenient
-- by the lenient grammar.
pub record AreLinesStopped {R I W N : Type 0} (IsOpened : List ℕ → R → Type 0)
    (HasLeft : R → List ℕ → Type 0)
    (CannotOpen : List ℕ → Type 0) (failed : R → Bool) (IsStanding : List ℕ → Standing → Type 0)
    (HasNames : List ℕ → List (List ℕ) → Type 0) (HasInput : I → List ℕ → Type 0)
    (input_failed : I → Bool) (HasTaken : W → List ℕ → Type 0)
    (stuck : Type 0) (HasTold : N → List ℕ → Type 0) (found : Found)
    (asked left : I) (old new : W) (before after : N) (fault : ProgramFault) : Type 0 where
  pub lenient : Bool
  pub lenient_flag : IsFlag found (codes "lenient") lenient
  pub why : IsAnsweringStopped IsOpened HasLeft CannotOpen failed IsStanding HasNames HasInput
      input_failed HasTaken stuck HasTold lenient (first_value found (codes "dir")) asked left
      old new before after fault

-- Why each subcommand stops.
pub record IsStoppedAsGiven {R V I W N : Type 0} (IsOpened : List ℕ → R → Type 0)
    (HasLeft : R → List ℕ → Type 0)
    (CannotOpen CannotList : List ℕ → Type 0) (failed : R → Bool)
    (IsStanding : List ℕ → Standing → Type 0)
    (HasNames : List ℕ → List (List ℕ) → Type 0)
    (AreOne : List ℕ → List ℕ → Type 0) (IsBegun : List ℕ → V → Type 0)
    (IsPlaced : List ℕ → Bool → V → Type 0) (HasWritten : V → List ℕ → Type 0)
    (writer_failed takes_some : V → Bool)
    (CannotBegin CannotStore CannotPlace : List ℕ → Type 0) (HasInput : I → List ℕ → Type 0)
    (input_failed : I → Bool) (HasTaken : W → List ℕ → Type 0)
    (stuck : Type 0) (HasTold : N → List ℕ → Type 0) (name : List ℕ) (found : Found)
    (asked left : I) (old new : W)
    (before after : N) (fault : ProgramFault) : Type 0 where
  pub circled : name ≡ codes "circle" →
      IsOfSessionWords found fault
      ⊎ (IsNotAClient (text_of found (codes "owner")) fault
      ⊎ IsCircleStopped IsOpened HasLeft CannotOpen CannotList failed IsStanding HasNames stuck
      HasTold found before after fault)
  pub asked_why : name ≡ codes "why" → IsOfSessionWords found fault
      ⊎ IsWhyStopped IsOpened HasLeft CannotOpen CannotList failed stuck found fault
  pub ran : name ≡ codes "run" → IsToldOf IsStanding found (λ e. IsOfSessionWords found e
      ⊎ IsRunStopped IsOpened HasLeft CannotOpen CannotList failed IsStanding HasNames AreOne
      IsPlaced HasWritten writer_failed takes_some CannotPlace stuck HasTold found before after e)
      fault
  pub recorded : name ≡ codes "record" → IsToldOf IsStanding found (λ e. IsOfSessionWords found e
      ⊎ (IsOfRecordingWords IsOpened HasLeft CannotOpen failed found e
      ⊎ IsRecordStopped IsOpened HasLeft CannotOpen CannotList failed IsStanding HasNames AreOne
      IsBegun writer_failed takes_some
      CannotBegin CannotStore HasTold found before after e)) fault
  pub answered_lines : name ≡ codes "live" →
      IsOfListing CannotList (first_value found (codes "dir")) fault
      ⊎ AreLinesStopped IsOpened HasLeft CannotOpen failed IsStanding HasNames HasInput
      input_failed HasTaken stuck HasTold found asked left old new before after fault
  pub of_files : IsOfFiles name →
      AreFilesStopped IsOpened CannotOpen HasLeft failed AreOne IsBegun writer_failed takes_some
      CannotBegin CannotStore HasInput input_failed stuck name found asked left fault
