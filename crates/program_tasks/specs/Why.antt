-- Definition: Why a message did not come, and why a line did nothing.
use Rattle.std.specs.Prelude.{◌≡◌, ◌⊎◌, ℕ, ◌-◌, ◌==◌, Bool, ◌&&◌, if◌then◌else◌, List, [], ◌∷◌, ◌++◌, codes, drop, length, take, Option, Some, None}
use Rattle.std.specs.List.{flat_map}
use Rattle.std.specs.Option.{option_and_then, option_map, option_or}
use Rattle.std.specs.Str.{byte, bytes_eq}
use Rattle.byte_io.specs.Moved.{Took}
use Rattle.node_table.specs.declared.number.PortAddr.{PortAddr}
use Rattle.seq_state.specs.Step.{port_addr}
use Rattle.script_text.specs.Numbers as says
use Rattle.script_text.specs.Words.{words}
use Rattle.seq_session.specs.declared.diagnostic.Diagnostic.{Diagnostic}
use Rattle.seq_session.specs.declared.slip.SlipOnLine.{SlipOnLine}
use Rattle.seq_session.specs.declared.source.Script.{Script}
use Rattle.seq_session.specs.Sessions.{FolderContents, diagnosed_in, slips_in}
use Rattle.way_fates.specs.Counts.{way_count}
use Rattle.way_fates.specs.Laws.{fates_of}
use Rattle.session_fates.specs.Asked.{state_at, is_there}
use Rattle.session_fates.specs.Told.{fates_text}
use Rattle.session_fates.specs.declared.text.TheConstants.{MOST_TOLD}
use Rattle.program_tasks.specs.declared.program_fault.ProgramFault.{ProgramFault}
use Rattle.program_tasks.specs.declared.program_fault.ProgramFault.TheVariants.{OutOfMemory, NotASource, NotAMessage, NotALine}
use Rattle.program_tasks.specs.declared.why_question.WhyQuestion.{WhyQuestion}
use Rattle.program_tasks.specs.declared.why_question.WhyQuestion.TheVariants as asked
use Rattle.program_tasks.specs.declared.words.ScriptWord.{ScriptWord}
use Rattle.program_tasks.specs.Explained.{diagnostic_line, slip_line, path_for, place_text}
use Rattle.program_tasks.specs.Opened.{AreOfFiles}
use Rattle.folder_files.specs.Escaped.{escaped_text}
use Rattle.program_tasks.specs.Words.{parts_at}

-- ---- words

-- the number of a port behind a `p`
abbrev pub port_behind : List ℕ → Option ℕ
port_behind [] = None
port_behind (b ∷ digits) = if b == byte "p" then says.node_number digits else None

-- a port, as `128:p0`
abbrev pub source_named : List ℕ → Option PortAddr
source_named word =
    option_and_then
    (λ c. says.both (λ n p. record { client = n; port = p }) (says.client_number c.0)
    (port_behind c.1))
    (parts_at (byte ":") word)

-- the bytes of one message in hexadecimal, as `90 24 64`
abbrev pub message_said : List ℕ → Option (List ℕ)
message_said word = says.message (words word)

-- the number behind a colon
abbrev pub behind_colon : List ℕ → Option ℕ
behind_colon [] = None
behind_colon (b ∷ digits) = if b == byte ":" then says.u64 digits else None

-- the line that a word names behind this path, `PATH:LINE`
abbrev pub line_behind : List ℕ → List ℕ → Option ℕ
line_behind path word =
    if bytes_eq (take (length path) word) path
    then behind_colon (drop (length path) word) else None

-- the client and the line that a word names behind the path of the first of these scripts
abbrev pub line_named : List ScriptWord → List ℕ → Option (ℕ × ℕ)
line_named [] word = None
line_named (w ∷ scripts) word =
    option_or (option_map (λ n. (w.client, n)) (line_behind w.path.now word))
    (line_named scripts word)

-- ---- what is wrong with words

abbrev pub IsOfSource : List ℕ → ProgramFault → Type 0
IsOfSource word (NotASource told) = (told.now ≡ word) × (source_named word ≡ None)
IsOfSource word _ = ⊥

-- out of memory, or the word says no message
abbrev pub IsOfMessage : List ℕ → ProgramFault → Type 0
IsOfMessage word OutOfMemory = Unit {0}
IsOfMessage word (NotAMessage told) = (told.now ≡ word) × (message_said word ≡ None)
IsOfMessage word _ = ⊥

abbrev pub IsOfLineWord : List ScriptWord → List ℕ → ProgramFault → Type 0
IsOfLineWord scripts word (NotALine told) =
    (told.now ≡ word) × (line_named scripts word ≡ None)
IsOfLineWord scripts word _ = ⊥

-- what is wrong with the words of a question
abbrev pub IsOfQuestion : List ScriptWord → WhyQuestion → ProgramFault → Type 0
IsOfQuestion scripts (asked.Message from message) fault =
    IsOfSource from.now fault ⊎ IsOfMessage message.now fault
IsOfQuestion scripts (asked.Line word) fault = IsOfLineWord scripts word.now fault

-- ---- what is told of a message

-- what becomes of a message from a port as the session stands at a moment, on the first of its ways
abbrev pub told_of_message : FolderContents → ℕ → List Script → PortAddr → List ℕ → List ℕ
told_of_message folder moment scripts port message =
    let s = state_at folder moment scripts in
    let source = port_addr port.client port.port in
    fates_text (is_there s port) source
    (take MOST_TOLD (fates_of s moment source message)) (way_count s.edges source - MOST_TOLD)

-- The text is that of the message that the words say, from the port that they name.
pub record IsMessageTold (folder : FolderContents) (moment : ℕ) (scripts : List Script)
    (from message text : List ℕ) : Type 0 where
  pub port : PortAddr
  pub from_is : source_named from ≡ Some port
  pub bytes : List ℕ
  pub message_is : message_said message ≡ Some bytes
  pub text_is : text ≡ told_of_message folder moment scripts port bytes

-- ---- what is told of a line

-- whether it is this line of the client's script
abbrev pub is_at : ℕ → ℕ → ℕ → ℕ → Bool
is_at client line c n = (c == client) && (n == line)

-- what it did not do
abbrev pub diagnostic_at : List ScriptWord → ℕ → ℕ → Diagnostic → List ℕ
diagnostic_at paths client line d =
    if is_at client line d.client d.line
    then diagnostic_line (path_for paths d.client) d ++ 10 ∷ [] else []

-- what was most likely not meant
abbrev pub slip_at : List ScriptWord → ℕ → ℕ → SlipOnLine → List ℕ
slip_at paths client line s =
    if is_at client line s.client s.line
    then slip_line (path_for paths s.client) s ++ 10 ∷ [] else []

-- of all that was told of a run, what is of this line
abbrev pub told_at : List ScriptWord → ℕ → ℕ → List Diagnostic → List SlipOnLine → List ℕ
told_at paths client line ds ss =
    flat_map (diagnostic_at paths client line) ds ++ flat_map (slip_at paths client line) ss

-- `keys.txt:3: it did what it says, or it says nothing`
abbrev pub nothing_text : List ℕ → ℕ → List ℕ
nothing_text path line =
    escaped_text path ++ place_text line ++ codes ": it did what it says, or it says nothing\n"

abbrev pub or_nothing : List ℕ → ℕ → List ℕ → List ℕ
or_nothing path line [] = nothing_text path line
or_nothing path line (b ∷ text) = b ∷ text

-- what is told of a line of a client's script
abbrev pub told_of_line :
    List ScriptWord → ℕ → ℕ → List Diagnostic → List SlipOnLine → List ℕ
told_of_line paths client line ds ss =
    or_nothing (path_for paths client) line (told_at paths client line ds ss)

-- The text is that of the line that the word names.
pub record IsLineTold (folder : FolderContents) (end : ℕ) (scripts : List Script)
    (paths : List ScriptWord) (word text : List ℕ) : Type 0 where
  pub client : ℕ
  pub line : ℕ
  pub named : line_named paths word ≡ Some (client, line)
  pub text_is : text ≡ told_of_line paths client line (diagnosed_in folder end scripts)
      (slips_in folder end scripts)

-- ---- what is printed

abbrev pub IsAnswerTold : FolderContents → ℕ → List Script → List ScriptWord → WhyQuestion
    → List ℕ → Type 0
IsAnswerTold folder end scripts paths (asked.Message from message) text =
    IsMessageTold folder end scripts from.now message.now text
IsAnswerTold folder end scripts paths (asked.Line word) text =
    IsLineTold folder end scripts paths word.now text

-- The scripts were read from the files that the words name, and the text answers the question in
-- the session of just these.
pub record IsWhyTold {R : Type 0} (IsOpened : List ℕ → R → Type 0) (HasLeft : R → List ℕ → Type 0)
    (folder : FolderContents) (end : ℕ) (paths : List ScriptWord) (question : WhyQuestion)
    (text : List ℕ) : Type 0 where
  pub scripts : List Script
  pub read : AreOfFiles IsOpened HasLeft paths scripts
  pub told : IsAnswerTold folder end scripts paths question text

-- The sink took such a text.
pub record IsWhyPrinted {R W : Type 0} (IsOpened : List ℕ → R → Type 0)
    (HasLeft : R → List ℕ → Type 0)
    (HasTaken : W → List ℕ → Type 0) (folder : FolderContents) (end : ℕ) (paths : List ScriptWord)
    (question : WhyQuestion) (old new : W) : Type 0 where
  pub text : List ℕ
  pub told : IsWhyTold IsOpened HasLeft folder end paths question text
  pub took : Took HasTaken old text new
