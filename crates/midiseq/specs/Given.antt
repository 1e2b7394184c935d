-- Definition: What the command line gives the subcommands that run a sequencer.
use Rattle.std.specs.Prelude.{◌≡◌, ◌≢◌, ℕ, Bool, true, false, ◌||◌, if◌then◌else◌, List, [], Some, None, codes, unwrap_or, MatchOption}
use Rattle.std.specs.Option.{option_map}
use Rattle.clap.specs.declared.parser.matches.Found.{Found}
use Rattle.clap.specs.Matches.{first_value, matched_of, one_text, raw_values}
use Rattle.file_store.specs.declared.standing.Standing.{Standing}
use Rattle.node_table.specs.declared.number.PortAddr.{PortAddr}
use Rattle.script_text.specs.Numbers as says
use Rattle.tempo_clock.specs.Ticks.{Tempos}
use Rattle.program_tasks.specs.declared.answer.CircleAnswer.{CircleAnswer}
use Rattle.program_tasks.specs.declared.end_word.EndWord.{EndWord}
use Rattle.program_tasks.specs.declared.end_word.EndWord.TheVariants.{Until, For, ToEnd}
use Rattle.program_tasks.specs.declared.ending.Ended.{Ended}
use Rattle.program_tasks.specs.declared.ending.Ended.TheVariants.{Done, Answered, Judged, Checked}
use Rattle.program_tasks.specs.declared.question.CircleQuestion.TheVariants.{Of, OfAll}
use Rattle.program_tasks.specs.declared.why_question.WhyQuestion.{WhyQuestion}
use Rattle.program_tasks.specs.declared.why_question.WhyQuestion.TheVariants.{Message, Line}
use Rattle.program_tasks.specs.Grid.{IsGrid}
use Rattle.program_tasks.specs.declared.grid.GridWords.{GridWords}
use Rattle.program_tasks.specs.declared.grid.GridWords.TheVariants.{Said, Like}
use Rattle.log_forms.specs.declared.form.LogForm.{LogForm}
use Rattle.log_forms.specs.declared.form.LogForm.TheVariants.{Text}
use Rattle.program_tasks.specs.declared.form_word.Printing.{Printing}
use Rattle.program_tasks.specs.declared.log_folder.LogFolder.{LogFolder}
use Rattle.program_tasks.specs.FormWords.{form_name}
use Rattle.program_tasks.specs.Words.{port_named, ports_named, scripts_named, scripts_seen}
use Rattle.program_tasks.specs.declared.recording.Recorded.{Recorded}
use Rattle.program_tasks.specs.declared.recording.Recorded.TheVariants.{Stream, Port, Ports}
use Rattle.program_tasks.specs.declared.recording.Recording.{Recording}
use Rattle.program_tasks.specs.declared.run_answer.RunAnswer.{RunAnswer}
use Rattle.program_tasks.specs.declared.session.Session.{Session}
use Rattle.program_tasks.specs.Checked.{AreFilesChecked}
use Rattle.program_tasks.specs.Live.{AreLinesAnswered}
use Rattle.program_tasks.specs.Made.{IsMade}
use Rattle.program_tasks.specs.Subcommands.{IsRunPrinted, IsRunStreamed, IsRunExplained, IsCircleAnswered, IsWhyAnswered, IsRunRecorded}
use Rattle.program_tasks.specs.Tasks.{IsDone}
use Rattle.program_tasks.specs.Times.{end_said}
use Rattle.program_tasks.specs.declared.choice.Stream as choice
use Rattle.program_tasks.specs.declared.choice.DumpFlags.{DumpFlags}
use Rattle.program_tasks.specs.declared.choice.Task.{Task}
use Rattle.program_tasks.specs.Program.{IsToolNamed, IsNamedBy}
use Rattle.smf_check.specs.declared.answer.CheckAnswer.{CheckAnswer}

-- the first value of an option, and no text where it has none
abbrev pub text_of : Found → List ℕ → List ℕ
text_of found id = unwrap_or (first_value found id) []

-- the end is the moment that this text says
abbrev pub IsUntil : List ℕ → EndWord → Type 0
IsUntil text (Until word) = word.now ≡ text
IsUntil text _ = ⊥

-- the end comes after the time that this text says
abbrev pub IsFor : EndWord → List ℕ → Type 0
IsFor (For word) text = word.now ≡ text
IsFor _ text = ⊥

-- When the session ends: with --to-end when nothing is left, else after the time of --for, and
-- without that at the moment of --until.
pub record IsEndGiven (found : Found) (end : EndWord) : Type 0 where
  pub to_end : one_text found (codes "to-end") ≡ Some (codes "true") → end ≡ ToEnd
  pub said : one_text found (codes "to-end") ≡ None → MatchOption (first_value found (codes "for"))
      (IsUntil (text_of found (codes "until")) end) (IsFor end)

-- whether a flag is given
pub record IsFlag (found : Found) (id : List ℕ) (given : Bool) : Type 0 where
  pub absent : one_text found id ≡ None → given ≡ false
  pub present : one_text found id ≡ Some (codes "true") → given ≡ true

-- the session ends when the words say so, and has the folder of --dir, with --lenient read by the
-- lenient grammar, and the scripts of the other words
pub record IsGiven (found : Found) (session : Session) : Type 0 where
  pub end : EndWord
  pub given : IsEndGiven found end
  pub until : Some session.until ≡ end_said end
  pub dir : option_map (λ d. d.now) session.dir ≡ first_value found (codes "dir")
  pub lenient : IsFlag found (codes "lenient") session.is_lenient
  pub scripts : Some (scripts_seen session.scripts.items)
      ≡ scripts_named (unwrap_or
      (option_map raw_values (matched_of found (codes "CLIENT=PATH"))) [])

-- what a run did not do is told, with all reasons: where --strict or --explain is given
pub record IsAsked (found : Found) (asked : Bool) : Type 0 where
  pub strict : Bool
  pub strict_flag : IsFlag found (codes "strict") strict
  pub explains : Bool
  pub explain_flag : IsFlag found (codes "explain") explains
  pub is : asked ≡ (strict || explains)

-- the form of --format, and without it text
abbrev pub IsFormGiven : Found → LogForm → Type 0
IsFormGiven found form = MatchOption (first_value found (codes "format")) (form ≡ Text)
    (λ word. form_name form ≡ word)

-- the folder that this word names, whose files keep what they have where --append is given
pub record IsLogFolderGiven (found : Found) (logs : LogFolder) (word : List ℕ) : Type 0 where
  pub path : logs.path.now ≡ word
  pub append : IsFlag found (codes "append") logs.append

-- ---- what is asked

-- what becomes of the message of --message from the port of --from
abbrev pub IsMessageAsked : Found → WhyQuestion → Type 0
IsMessageAsked found (Message from message) =
    (from.now ≡ text_of found (codes "from")) × (message.now ≡ text_of found (codes "message"))
IsMessageAsked found (Line word) = ⊥

-- what the line that this word names did not do
abbrev pub IsLineAsked : WhyQuestion → List ℕ → Type 0
IsLineAsked (Line told) word = told.now ≡ word
IsLineAsked (Message from message) word = ⊥

-- with --log a line, and without it a message
abbrev pub IsQuestionGiven : Found → WhyQuestion → Type 0
IsQuestionGiven found question = MatchOption (first_value found (codes "log"))
    (IsMessageAsked found question) (IsLineAsked question)

-- ---- what is recorded

-- the port of --port, with --raw as one MIDI stream and else as a file
abbrev pub IsOnePortGiven : Found → Recorded → Type 0
IsOnePortGiven found (Stream port) =
    IsFlag found (codes "raw") true × (Some port ≡ port_named (text_of found (codes "port")))
IsOnePortGiven found (Port port) =
    IsFlag found (codes "raw") false × (Some port ≡ port_named (text_of found (codes "port")))
IsOnePortGiven found (Ports ports clock) = ⊥

-- the words of --ppq and --bpm
abbrev pub AreSaid : Found → GridWords → Type 0
AreSaid found (Said ppq bpm) =
    (option_map (λ w. w.now) ppq ≡ first_value found (codes "ppq"))
    × (option_map (λ w. w.now) bpm ≡ first_value found (codes "bpm"))
AreSaid found (Like path) = ⊥

-- the file at this path
abbrev pub AreLike : GridWords → List ℕ → Type 0
AreLike (Said ppq bpm) word = ⊥
AreLike (Like path) word = path.now ≡ word

-- the words for ticks and tempos: the file of --like, and without it those of --ppq and --bpm
abbrev pub AreGridWords : Found → GridWords → Type 0
AreGridWords found words =
    MatchOption (first_value found (codes "like")) (AreSaid found words) (AreLike words)

module _ {R : Type 0} (IsOpened : List ℕ → R → Type 0) (HasLeft : R → List ℕ → Type 0) where
  -- The ports that this word names, by the ticks and the tempos that the words for these give.
  pub record ArePortsGiven (found : Found) (ports : List PortAddr) (clock : Tempos)
      (word : List ℕ) : Type 0 where
    pub named : Some ports ≡ ports_named word
    pub words : GridWords
    pub given : AreGridWords found words
    pub grid : IsGrid IsOpened HasLeft words clock

  -- a track for each of the ports that this word names
  abbrev pub AreTracksGiven : Found → Recorded → List ℕ → Type 0
  AreTracksGiven found (Ports ports clock) word = ArePortsGiven found ports.now clock.now word
  AreTracksGiven found _ word = ⊥

  -- What is recorded: a track for each port of --ports, and without it the port of --port. It goes
  -- to the file of --out, and is strict with --strict.
  pub record IsRecordingGiven (found : Found) (recording : Recording) : Type 0 where
    pub path : recording.path.now ≡ text_of found (codes "out")
    pub strict : IsFlag found (codes "strict") recording.strict
    pub what : MatchOption (first_value found (codes "ports"))
        (IsOnePortGiven found recording.what) (AreTracksGiven found recording.what)

-- ---- what the subcommands do

module _ {R W : Type 0} (IsOpened : List ℕ → R → Type 0) (HasLeft : R → List ℕ → Type 0)
    (CannotOpen : List ℕ → Type 0)
    (failed : R → Bool) (IsStanding : List ℕ → Standing → Type 0)
    (HasNames : List ℕ → List (List ℕ) → Type 0) where
  -- A run of this session has ended so: where it is strict, explained and judged; where it is to
  -- explain, explained; else it was printed.
  abbrev pub RanAs : {N : Type 0} → (W → List ℕ → Type 0) → (N → List ℕ → Type 0) → Session →
      Printing → (strict explains : Bool) → W → W → N → N → Ended → Type 0
  RanAs HasTaken HasTold session printing true explains old new before after (Judged answer) =
      IsRunExplained IsOpened HasLeft CannotOpen failed IsStanding HasNames HasTaken HasTold session
      printing answer old new before after
  RanAs HasTaken HasTold session printing false true old new before after Done =
      (answer : RunAnswer) × IsRunExplained IsOpened HasLeft CannotOpen failed IsStanding HasNames
      HasTaken HasTold session printing answer old new before after
  RanAs HasTaken HasTold session printing false false old new before after Done =
      IsRunPrinted IsOpened HasLeft CannotOpen failed IsStanding HasNames HasTaken HasTold session
      printing old new before after
  RanAs HasTaken HasTold session printing strict explains old new before after _ = ⊥

  -- The session was run and printed in the form of --format, with the listing where --list is
  -- given, as --strict and --explain say.
  pub record PrintsAsGiven {N : Type 0} (HasTaken : W → List ℕ → Type 0)
      (HasTold : N → List ℕ → Type 0) (found : Found) (session : Session)
      (old new : W) (before after : N) (ended : Ended) : Type 0 where
    pub printing : Printing
    pub form : IsFormGiven found printing.form
    pub list_flag : IsFlag found (codes "list") printing.listed
    pub strict : Bool
    pub strict_flag : IsFlag found (codes "strict") strict
    pub explains : Bool
    pub explain_flag : IsFlag found (codes "explain") explains
    pub ran : RanAs HasTaken HasTold session printing strict explains old new before after ended

  -- The session was run, and its logs were written to the folder of this word, with --append behind
  -- what the files had; the listing was printed where --list is given.
  pub record StreamsAsGiven {V N : Type 0} (IsPlaced : List ℕ → Bool → V → Type 0)
      (HasWritten : V → List ℕ → Type 0) (AreApart : List ℕ → List ℕ → Type 0)
      (HasTaken : W → List ℕ → Type 0)
      (HasTold : N → List ℕ → Type 0) (found : Found) (session : Session)
      (old new : W) (before after : N) (ended : Ended) (word : List ℕ) : Type 0 where
    pub logs : LogFolder
    pub given : IsLogFolderGiven found logs word
    pub listed : Bool
    pub list_flag : IsFlag found (codes "list") listed
    pub streamed : IsRunStreamed IsOpened HasLeft CannotOpen failed IsStanding HasNames IsPlaced
        HasWritten AreApart HasTaken HasTold session logs listed old new before after
    pub ends : ended ≡ Done

  -- The session of these words was run: its logs were written to the folder of --logs, and without
  -- that printed.
  pub record RunsAsGiven {V N : Type 0} (IsPlaced : List ℕ → Bool → V → Type 0)
      (HasWritten : V → List ℕ → Type 0) (AreApart : List ℕ → List ℕ → Type 0)
      (HasTaken : W → List ℕ → Type 0) (HasTold : N → List ℕ → Type 0) (found : Found)
      (old new : W) (before after : N) (ended : Ended) : Type 0 where
    pub session : Session
    pub given : IsGiven found session
    pub ran : MatchOption (first_value found (codes "logs"))
        (PrintsAsGiven HasTaken HasTold found session old new before after ended)
        (StreamsAsGiven IsPlaced HasWritten AreApart HasTaken HasTold found session
        old new before after ended)

  -- The circle round the client that the word names was printed, with --session also whether it is
  -- closed in the session, and the answer is that circle's.
  pub record IsAnsweredRound {N : Type 0} (HasTaken : W → List ℕ → Type 0)
      (HasTold : N → List ℕ → Type 0) (found : Found) (session : Session) (answer : CircleAnswer)
      (old new : W) (before after : N) (word : List ℕ) : Type 0 where
    pub owner : ℕ
    pub client : Some owner ≡ says.client_number word
    pub in_session : Bool
    pub flag : IsFlag found (codes "session") in_session
    pub printed : IsCircleAnswered IsOpened HasLeft CannotOpen failed IsStanding HasNames HasTaken
        HasTold session (Of owner in_session) answer
        old new before after

  -- The circle round the client of --owner in the session of these words was printed, and the
  -- answer is that circle's; without --owner a line for each client's.
  pub record CirclesAsGiven {N : Type 0} (HasTaken : W → List ℕ → Type 0)
      (HasTold : N → List ℕ → Type 0) (found : Found)
      (old new : W) (before after : N) (answer : CircleAnswer) : Type 0 where
    pub session : Session
    pub given : IsGiven found session
    pub printed : MatchOption (first_value found (codes "owner"))
        (IsCircleAnswered IsOpened HasLeft CannotOpen failed IsStanding HasNames HasTaken HasTold
        session OfAll answer old new before after)
        (IsAnsweredRound HasTaken HasTold found session answer old new before after)

  -- The question of the words about the session of these words was answered.
  pub record AnswersAsGiven {N : Type 0} (HasTaken : W → List ℕ → Type 0)
      (HasTold : N → List ℕ → Type 0) (found : Found)
      (old new : W) (before after : N) : Type 0 where
    pub session : Session
    pub given : IsGiven found session
    pub question : WhyQuestion
    pub asked : IsQuestionGiven found question
    pub answered : IsWhyAnswered IsOpened HasLeft CannotOpen failed IsStanding HasNames HasTaken
        HasTold session question old new before after

  -- The session was recorded so; it was explained where the recording is strict or --explain says
  -- so, and judged where it is strict.
  pub record EndsRecorded {N : Type 0} (IsBegun : List ℕ → W → Type 0)
      (HasTaken : W → List ℕ → Type 0)
      (IsStored : List ℕ → W → Type 0) (HasTold : N → List ℕ → Type 0) (found : Found)
      (session : Session) (recording : Recording)
      (before after : N) (ended : Ended) : Type 0 where
    pub explains : Bool
    pub explain_flag : IsFlag found (codes "explain") explains
    pub answer : RunAnswer
    pub recorded : IsRunRecorded IsOpened HasLeft CannotOpen failed IsStanding HasNames IsBegun
        HasTaken IsStored HasTold
        session recording (recording.strict || explains) answer before after
    pub ends : ended ≡ (if recording.strict then Judged answer else Done)

  -- The session of these words was recorded as they say.
  pub record RecordsAsGiven {N : Type 0} (IsBegun : List ℕ → W → Type 0)
      (HasTaken : W → List ℕ → Type 0)
      (IsStored : List ℕ → W → Type 0) (HasTold : N → List ℕ → Type 0) (found : Found)
      (before after : N) (ended : Ended) : Type 0 where
    pub session : Session
    pub given : IsGiven found session
    pub recording : Recording
    pub given_recording : IsRecordingGiven IsOpened HasLeft found recording
    pub recorded : EndsRecorded IsBegun HasTaken IsStored HasTold found session recording
        before after ended

-- The lines were answered, of clients that may play the files of the folder of --dir, with --lenient
-- read by the lenient grammar.
pub record AnswersLinesAsGiven {R I W N : Type 0} (IsOpened : List ℕ → R → Type 0)
    (HasLeft : R → List ℕ → Type 0)
    (CannotOpen : List ℕ → Type 0) (failed : R → Bool) (IsStanding : List ℕ → Standing → Type 0)
    (HasNames : List ℕ → List (List ℕ) → Type 0)
    (HasInput : I → List ℕ → Type 0) (HasTaken : W → List ℕ → Type 0)
    (HasTold : N → List ℕ → Type 0) (found : Found)
    (asked left : I) (old new : W) (before after : N) : Type 0 where
  pub lenient : Bool
  pub lenient_flag : IsFlag found (codes "lenient") lenient
  pub answered : AreLinesAnswered IsOpened HasLeft CannotOpen failed IsStanding HasNames HasInput
      HasTaken HasTold lenient (first_value found (codes "dir")) asked left old new before after

-- the flags --all, --at and --lenient as they are given
pub record AreDumpFlags (found : Found) (flags : DumpFlags) : Type 0 where
  pub all : IsFlag found (codes "all") flags.all
  pub at : IsFlag found (codes "at") flags.at
  pub lenient : IsFlag found (codes "lenient") flags.lenient

-- The tool of this name and these flags has done its work on the stream that the word FILE names,
-- or without one on standard input.
pub record ToolDoesAsGiven {R I W : Type 0} (IsOpened : List ℕ → R → Type 0)
    (HasLeft : R → List ℕ → Type 0)
    (HasInput : I → List ℕ → Type 0) (HasTaken : W → List ℕ → Type 0) (name : List ℕ)
    (found : Found)
    (before after : I) (old new : W) : Type 0 where
  pub task : Task
  pub flags : DumpFlags
  pub given : AreDumpFlags found flags
  pub tool : IsToolNamed task.tool name flags
  pub stream : IsNamedBy task.stream (unwrap_or (first_value found (codes "FILE")) (codes "-"))
  pub done : IsDone IsOpened HasLeft HasInput HasTaken task before after old new

-- The file that the text says which TEXT names, or without one standard input, was written to the
-- file of --out.
pub record MakesAsGiven {R I W : Type 0} (IsOpened : List ℕ → R → Type 0)
    (HasLeft : R → List ℕ → Type 0) (HasInput : I → List ℕ → Type 0)
    (AreApart : List ℕ → List ℕ → Type 0) (IsBegun : List ℕ → W → Type 0)
    (HasTaken : W → List ℕ → Type 0) (IsStored : List ℕ → W → Type 0) (found : Found)
    (before after : I) : Type 0 where
  pub text : choice.Stream
  pub named : IsNamedBy text (unwrap_or (first_value found (codes "TEXT")) (codes "-"))
  pub made : IsMade IsOpened HasLeft HasInput AreApart IsBegun HasTaken IsStored text
      (text_of found (codes "out")) before after

-- The files that the words FILE name were checked, with --lenient by the lenient grammar, with a
-- line for each, or with --quiet for each that is not whole.
pub record ChecksAsGiven {R W : Type 0} (IsOpened : List ℕ → R → Type 0)
    (HasLeft : R → List ℕ → Type 0) (CannotOpen CannotList : List ℕ → Type 0) (failed : R → Bool)
    (IsStanding : List ℕ → Standing → Type 0) (HasNames : List ℕ → List (List ℕ) → Type 0)
    (HasTaken : W → List ℕ → Type 0) (found : Found) (old new : W) (ended : Ended) : Type 0 where
  pub quiet : Bool
  pub quiet_flag : IsFlag found (codes "quiet") quiet
  pub lenient : Bool
  pub lenient_flag : IsFlag found (codes "lenient") lenient
  pub answer : CheckAnswer
  pub checked : AreFilesChecked IsOpened HasLeft CannotOpen CannotList failed IsStanding HasNames
      HasTaken (unwrap_or (option_map raw_values (matched_of found (codes "FILE"))) []) quiet
      lenient answer old new
  pub ends : ended ≡ Checked answer

-- the name is that of no subcommand with words of its own for files
abbrev pub IsOfPlainTool : List ℕ → Type 0
IsOfPlainTool name = (name ≢ codes "make") × (name ≢ codes "check")

-- What each subcommand that takes files does: make writes one, check prints verdicts, and each
-- other is a tool's.
pub record FilesDoAsGiven {R I V W : Type 0} (IsOpened : List ℕ → R → Type 0)
    (HasLeft : R → List ℕ → Type 0) (CannotOpen CannotList : List ℕ → Type 0) (failed : R → Bool)
    (IsStanding : List ℕ → Standing → Type 0) (HasNames : List ℕ → List (List ℕ) → Type 0)
    (AreApart : List ℕ → List ℕ → Type 0) (IsBegun : List ℕ → V → Type 0)
    (HasWritten : V → List ℕ → Type 0) (IsStored : List ℕ → V → Type 0)
    (HasInput : I → List ℕ → Type 0) (HasTaken : W → List ℕ → Type 0) (name : List ℕ)
    (found : Found) (asked left : I) (old new : W) (ended : Ended) : Type 0 where
  pub made : name ≡ codes "make" →
      MakesAsGiven IsOpened HasLeft HasInput AreApart IsBegun HasWritten IsStored found asked left
      × (ended ≡ Done)
  pub checked : name ≡ codes "check" →
      ChecksAsGiven IsOpened HasLeft CannotOpen CannotList failed IsStanding HasNames HasTaken found
      old new ended
  pub tool : IsOfPlainTool name →
      ToolDoesAsGiven IsOpened HasLeft HasInput HasTaken name found asked left old new
      × (ended ≡ Done)

-- the name is that of no subcommand that runs a sequencer
abbrev pub IsOfFiles : List ℕ → Type 0
IsOfFiles name = (name ≢ codes "circle") × (name ≢ codes "why") × (name ≢ codes "run")
    × (name ≢ codes "record") × (name ≢ codes "live")

-- The program ends with an answer of which this holds.
abbrev pub IfAnswered : Ended → (CircleAnswer → Type 0) → Type 0
IfAnswered (Answered answer) P = P answer
IfAnswered _ P = ⊥

-- What each subcommand does: circle prints and answers; why prints; run prints, or writes logs to a
-- folder, and record writes a file, where both may explain and judge; live answers the lines of
-- standard input; and each other takes files.
pub record DoesAsGiven {R V I W N : Type 0} (IsOpened : List ℕ → R → Type 0)
    (HasLeft : R → List ℕ → Type 0)
    (CannotOpen CannotList : List ℕ → Type 0) (failed : R → Bool)
    (IsStanding : List ℕ → Standing → Type 0)
    (HasNames : List ℕ → List (List ℕ) → Type 0)
    (IsBegun : List ℕ → V → Type 0) (HasWritten : V → List ℕ → Type 0)
    (IsStored : List ℕ → V → Type 0) (IsPlaced : List ℕ → Bool → V → Type 0)
    (AreApart : List ℕ → List ℕ → Type 0)
    (HasInput : I → List ℕ → Type 0) (HasTaken : W → List ℕ → Type 0)
    (HasTold : N → List ℕ → Type 0)
    (name : List ℕ) (found : Found) (asked left : I) (old new : W) (before after : N)
    (ended : Ended) : Type 0 where
  pub circled : name ≡ codes "circle" → IfAnswered ended
      (CirclesAsGiven IsOpened HasLeft CannotOpen failed IsStanding HasNames HasTaken HasTold found
      old new before after)
  pub asked_why : name ≡ codes "why" →
      AnswersAsGiven IsOpened HasLeft CannotOpen failed IsStanding HasNames HasTaken HasTold found
      old new before after × (ended ≡ Done)
  pub ran : name ≡ codes "run" →
      RunsAsGiven IsOpened HasLeft CannotOpen failed IsStanding HasNames IsPlaced HasWritten
      AreApart HasTaken HasTold found old new before after ended
  pub recorded : name ≡ codes "record" →
      RecordsAsGiven IsOpened HasLeft CannotOpen failed IsStanding HasNames IsBegun HasWritten
      IsStored HasTold found before after ended
  pub answered_lines : name ≡ codes "live" →
      AnswersLinesAsGiven IsOpened HasLeft CannotOpen failed IsStanding HasNames HasInput HasTaken
      HasTold found asked left old new before after × (ended ≡ Done)
  pub of_files : IsOfFiles name →
      FilesDoAsGiven IsOpened HasLeft CannotOpen CannotList failed IsStanding HasNames AreApart
      IsBegun HasWritten IsStored HasInput HasTaken name found asked left old new ended
