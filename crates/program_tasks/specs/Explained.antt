-- Definition: What is told of a run, beside its logs: what it did not do, and notes that sound.
use Rattle.std.specs.Prelude.{◌≡◌, ℕ, ◌+◌, ◌/◌, ◌==◌, max, Bool, true, false, not, ◌&&◌, if◌then◌else◌, List, [], ◌∷◌, ◌++◌, length, codes}
use Rattle.std.specs.List.{filter, flat_map}
use Rattle.std.specs.Fmt.{decimal}
use Rattle.byte_io.specs.Moved.{Took}
use Rattle.node_table.specs.Text.{addr_text, queue_text}
use Rattle.node_table.specs.declared.number.Addr.{Addr}
use Rattle.node_table.specs.declared.number.Node.TheVariants.{Port}
use Rattle.node_table.specs.declared.number.PortAddr.{PortAddr}
use Rattle.node_table.specs.declared.number.QueueAddr.{QueueAddr}
use Rattle.seq_state.specs.Refusals.{refusal_text}
use Rattle.seq_state.specs.declared.refusal.Refusal.{Refusal}
use Rattle.seq_state.specs.declared.refusal.Refusal.TheVariants.{NotOpen, AlreadyOpen, BadName, BadSize, BadRule, NodeExists, NoNode, NoSender, NoDest, NotPermitted, AlreadyConnected, NotConnected, SourcesFull, Cycle, QueueExists, NotYours, NoQueue, QueueRunning, QueueStopped, NoFile, DivisionDiffers, BadTempo, BadTime, OutFull}
use Rattle.seq_engine.specs.declared.losses.Loss.{Loss}
use Rattle.script_text.specs.declared.reading.SkipReason.{SkipReason}
use Rattle.script_text.specs.declared.reading.SkipReason.TheVariants as reason
use Rattle.script_text.specs.LineFaults.{line_fault_text}
use Rattle.seq_session.specs.declared.about.About.{About}
use Rattle.seq_session.specs.declared.about.About.TheVariants as about
use Rattle.seq_session.specs.declared.about.Capability.{Capability}
use Rattle.seq_session.specs.declared.about.Capability.TheVariants.{Read, SubsRead, Write, SubsWrite}
use Rattle.seq_session.specs.declared.diagnostic.Cause.{Cause}
use Rattle.seq_session.specs.declared.diagnostic.Cause.TheVariants.{Unreadable, Skipped, Refused}
use Rattle.seq_session.specs.declared.diagnostic.Diagnostic.{Diagnostic}
use Rattle.seq_session.specs.declared.session_run.SessionRun.{SessionRun}
use Rattle.seq_session.specs.declared.slip.Slip.{Slip}
use Rattle.seq_session.specs.declared.slip.Slip.TheVariants.{TempoAsBpm, ChannelsTen}
use Rattle.seq_session.specs.declared.slip.SlipOnLine.{SlipOnLine}
use Rattle.seq_session.specs.declared.source.Script.{Script}
use Rattle.seq_session.specs.Devices.{IsRunOf}
use Rattle.seq_session.specs.Sessions.{FolderContents, happens, diagnosed_in, lost_in, slips_in, has_port}
use Rattle.sounding_notes.specs.declared.listing.SoundingNote.{SoundingNote}
use Rattle.sounding_notes.specs.Sounding.{sounding}
use Rattle.program_tasks.specs.declared.form_word.Printing.{Printing}
use Rattle.program_tasks.specs.declared.explanation.Explanation.{Explanation}
use Rattle.program_tasks.specs.declared.run_answer.RunAnswer.{RunAnswer}
use Rattle.program_tasks.specs.declared.run_answer.RunAnswer.TheVariants.{Complete, Incomplete}
use Rattle.program_tasks.specs.declared.words.ScriptWord.{ScriptWord}
use Rattle.program_tasks.specs.Opened.{AreOfFiles}
use Rattle.program_tasks.specs.Printed.{session_text}
use Rattle.folder_files.specs.Escaped.{escaped_text}
use Rattle.program_tasks.specs.Program.{line_start}

-- ---- lines that did nothing

-- why a line is skipped
abbrev pub skipped_since : SkipReason → List ℕ
skipped_since reason.Unreadable = codes "it has the form of no command"
skipped_since reason.PastEnd = codes "its moment lies past the end of the run"
skipped_since reason.Late = codes "its moment lies before that of a line above it"
skipped_since reason.TooLong = codes "the script has more than 1048576 bytes"

-- what to do about a refusal, where nothing is named
abbrev pub remedy : Refusal → List ℕ
remedy NotOpen = codes "open first"
remedy AlreadyOpen = codes "close first"
remedy BadName = codes "a name has 1 to 32 visible ASCII characters"
remedy BadSize = codes "IN, OUT and MAX are 1 to 2000, and PPQ is 1 to 32767"
remedy BadRule =
    codes "KINDS is at most 1023, LOW at most HIGH, HIGH at most 127, SHIFT -127 to 127, "
    ++ codes "CHANNEL at most 15"
remedy NodeExists = codes "use another number, or drop the old one"
remedy NoNode = codes "make the port or the filter first"
remedy NoSender = codes "the first address names nothing: its client has to make the node first"
remedy NoDest = codes "the second address names nothing: its client has to make the node first"
remedy NotPermitted =
    codes "the capabilities of the two nodes do not allow it: their owners choose "
    ++ codes "them"
remedy AlreadyConnected = codes "the subscription is there already"
remedy NotConnected = codes "there is no such subscription"
remedy SourcesFull = codes "a node has at most 32 sources: end another subscription first"
remedy Cycle = codes "the filters would make a ring: leave out one subscription of it"
remedy QueueExists = codes "use another number, or drop the old queue"
remedy NotYours = codes "the queue is another client's"
remedy NoQueue = codes "make the queue first"
remedy QueueRunning = codes "stop the queue first"
remedy QueueStopped = codes "the queue is held already"
remedy NoFile = codes "no file of this name was taken from the folder of --dir"
remedy DivisionDiffers =
    codes "make the queue with queuefrom, or with the file's ticks per quarter "
    ++ codes "note"
remedy BadTempo = codes "a tempo is 1 to 16777215, and a queue that counts frames has none"
remedy BadTime = codes "now and DUE together are past 18446744073709551615"
remedy OutFull =
    codes "the output pool is full: wait until something was sent, drop, or open with a "
    ++ codes "greater OUT"

-- what is said of a node that a refusal is about; other refusals are about none
abbrev pub said_of_node : Refusal → List ℕ
said_of_node NodeExists = codes " is there already: use another number, or drop it"
said_of_node NoNode = codes " is not there: make it first"
said_of_node NoSender = codes " is not there: its client has to make it first"
said_of_node NoDest = codes " is not there: its client has to make it first"
said_of_node SourcesFull = codes " has 32 sources already: end another subscription first"
said_of_node _ = codes " is at fault"

-- of a subscription that a refusal is about; other refusals are about none
abbrev pub said_of_edge : Refusal → List ℕ
said_of_edge AlreadyConnected = codes " is there already"
said_of_edge Cycle = codes " would close a ring of filters: leave out one subscription of it"
said_of_edge _ = codes " is at fault"

-- `128:p0 to 129:p0`
abbrev pub edge_text : Addr → Addr → List ℕ
edge_text s t = addr_text s.client s.node ++ (codes " to " ++ addr_text t.client t.node)

abbrev pub edge_remedy : Refusal → Addr → Addr → List ℕ
edge_remedy NotConnected s t = codes "there is no subscription " ++ edge_text s t
edge_remedy r s t = edge_text s t ++ said_of_edge r

-- of a queue that a refusal is about; other refusals are about none
abbrev pub said_of_queue : Refusal → List ℕ
said_of_queue QueueExists = codes " is there already: use another number, or drop it"
said_of_queue NoQueue = codes " is not there: make it first"
said_of_queue QueueRunning = codes " runs already: stop it first"
said_of_queue QueueStopped = codes " is held already"
said_of_queue _ = codes " is at fault"

-- of a queue that is another client's
abbrev pub owner_said : ℕ → List ℕ
owner_said client =
    codes " is client "
    ++ (decimal client ++ codes "'s: only status, schedule and play may use it, once it is shared")

abbrev pub queue_remedy : Refusal → QueueAddr → List ℕ
queue_remedy NotYours q = queue_text q.client q.queue ++ owner_said q.client
queue_remedy r q = queue_text q.client q.queue ++ said_of_queue r

-- of a node that lacks a capability
abbrev pub said_of_lack : Capability → List ℕ
said_of_lack Read = codes " lacks READ: its owner chooses that"
said_of_lack SubsRead = codes " lacks SUBS_READ: its owner chooses that"
said_of_lack Write = codes " lacks WRITE: its owner chooses that"
said_of_lack SubsWrite = codes " lacks SUBS_WRITE: its owner chooses that"

-- `131:p0 lacks READ: its owner chooses that`
abbrev pub lack_text : Addr → Capability → List ℕ
lack_text a c = addr_text a.client a.node ++ said_of_lack c

abbrev pub no_export_text : Addr → List ℕ
no_export_text a = addr_text a.client a.node ++ codes " has NO_EXPORT: its owner chooses that"

-- what to do about a refusal, with the names of what it is about:
-- `131:f0 is not there: its client has to make it first`
abbrev pub remedy_named : Refusal → About → List ℕ
remedy_named r about.Nothing = remedy r
remedy_named r (about.Node a) = addr_text a.client a.node ++ said_of_node r
remedy_named r (about.Edge s t) = edge_remedy r s t
remedy_named r (about.Queue q) = queue_remedy r q
remedy_named r (about.Lacks a c) = lack_text a c
remedy_named r (about.NotExported a) = no_export_text a

abbrev pub cause_text : Cause → List ℕ
cause_text (Unreadable fault) = codes "skipped: " ++ line_fault_text fault
cause_text (Skipped why) = codes "skipped: " ++ skipped_since why
cause_text (Refused r a) = codes "refused " ++ refusal_text r ++ codes ": " ++ remedy_named r a

-- `:3`; nothing for the whole script
abbrev pub place_text : ℕ → List ℕ
place_text line = if line == 0 then [] else codes ":" ++ decimal line

-- `keys.txt:3: skipped: word 3 is not a node (as 128:p0)`
abbrev pub diagnostic_line : List ℕ → Diagnostic → List ℕ
diagnostic_line path d =
    escaped_text path ++ place_text d.line ++ codes ": " ++ cause_text d.cause

-- the path of a client's script
abbrev pub path_for : List ScriptWord → ℕ → List ℕ
path_for [] client = []
path_for (w ∷ words) client = if w.client == client then w.path.now else path_for words client

-- ---- lines that did most likely not what was meant

-- microseconds per quarter note at so many beats per minute, rounded down
abbrev pub tempo_meant : ℕ → ℕ
tempo_meant bpm = 60000000 / max bpm 1

-- what a tempo says, and what was meant
abbrev pub said_text : ℕ → List ℕ
said_text tempo =
    codes "TEMPO " ++ (decimal tempo ++ (codes " is " ++ (decimal tempo
    ++ (codes " microseconds per quarter note: " ++ (decimal tempo
    ++ codes " beats per minute are ")))))

abbrev pub slip_text : Slip → List ℕ
slip_text (TempoAsBpm tempo) = said_text tempo ++ decimal (tempo_meant tempo)
slip_text ChannelsTen = codes "CHANNELS 10 is channels 2 and 4: channel 10 alone is 512"

-- `keys.txt:3: CHANNELS 10 is channels 2 and 4: channel 10 alone is 512`
abbrev pub slip_line : List ℕ → SlipOnLine → List ℕ
slip_line path s = escaped_text path ++ place_text s.line ++ codes ": " ++ slip_text s.slip

-- ---- messages that were lost

abbrev pub messages_text : ℕ → List ℕ
messages_text n = decimal n ++ (if n == 1 then codes " message" else codes " messages")

-- `midiseq: 129 lost 2 messages: its input pool was full (see receive, listen)`
abbrev pub loss_line : Loss → List ℕ
loss_line l =
    line_start ++ decimal l.client ++ codes " lost " ++ messages_text l.messages
    ++ codes ": its input pool was full (see receive, listen)"

-- ---- notes that sound

-- channels count from 1
abbrev pub channel_text : ℕ → List ℕ
channel_text channel = decimal (channel + 1)

abbrev pub note_text : SoundingNote → List ℕ
note_text n =
    codes ": note " ++ (decimal n.note ++ (codes " of channel " ++ channel_text n.channel))

-- `midiseq: 129:p0: note 60 of channel 1 still sounds`
abbrev pub sounding_line : SoundingNote → List ℕ
sounding_line n =
    line_start ++ (addr_text n.target.client (Port n.target.port)
    ++ (note_text n ++ codes " still sounds"))

-- ---- ports that were never there

-- `midiseq: 129:p0 was never there`
abbrev pub absent_line : PortAddr → List ℕ
absent_line p = line_start ++ (addr_text p.client (Port p.port) ++ codes " was never there")

-- ---- a run

abbrev pub lines_told : {X : Type 0} → (X → List ℕ) → List X → List ℕ
lines_told line xs = flat_map (λ x. line x ++ 10 ∷ []) xs

-- the line of each, with the path of its script
abbrev pub diagnostics_told : List ScriptWord → List Diagnostic → List ℕ
diagnostics_told words ds = lines_told (λ d. diagnostic_line (path_for words d.client) d) ds

abbrev pub slips_told : List ScriptWord → List SlipOnLine → List ℕ
slips_told words ss = lines_told (λ s. slip_line (path_for words s.client) s) ss

-- the lines that did nothing, the ones that did most likely not what was meant, then what was lost,
-- what sounds, and which ports were never there
abbrev pub explanation_lines : List ScriptWord → Explanation → List ℕ
explanation_lines words x =
    diagnostics_told words x.diagnostics.items
    ++ (slips_told words x.slips.items
    ++ (lines_told loss_line x.losses.items
    ++ (lines_told sounding_line x.sounding.items
    ++ lines_told absent_line x.absent.items)))

-- the same, where it is asked for
abbrev pub told_where : Bool → List ScriptWord → Explanation → List ℕ
told_where true words x = explanation_lines words x
told_where false words x = []

abbrev pub are_none : {X : Type 0} → List X → Bool
are_none xs = length xs == 0

abbrev pub answer_where : Bool → RunAnswer
answer_where true = Complete
answer_where false = Incomplete

-- complete where all files were taken, no line did nothing, no message was lost, and each port that
-- is recorded was there
abbrev pub run_answer : Bool → Explanation → RunAnswer
run_answer all_taken x =
    answer_where (all_taken && are_none x.diagnostics.items && are_none x.losses.items
    && are_none x.absent.items)

-- those of some ports that were never there
abbrev pub absent_ports : FolderContents → ℕ → List Script → List PortAddr → List PortAddr
absent_ports folder end scripts ports = filter (λ p. not (has_port folder end scripts p)) ports

-- what the run of these scripts did not do, where these ports are recorded
pub record IsExplanationOf (folder : FolderContents) (end : ℕ) (scripts : List Script)
    (ports : List PortAddr) (x : Explanation) : Type 0 where
  pub diagnostics : x.diagnostics.items ≡ diagnosed_in folder end scripts
  pub slips : x.slips.items ≡ slips_in folder end scripts
  pub losses : x.losses.items ≡ lost_in folder end scripts
  pub sounding : x.sounding.items ≡ sounding (happens folder end scripts)
  pub absent : x.absent.items ≡ absent_ports folder end scripts ports

-- it is that of whatever scripts were run
abbrev pub IsExplainedBy : SessionRun → List PortAddr → Explanation → Type 0
IsExplainedBy run ports x = (folder : FolderContents) (end : ℕ) (scripts : List Script) →
    IsRunOf folder end scripts run → IsExplanationOf folder end scripts ports x

module _ {R : Type 0} (IsOpened : List ℕ → R → Type 0) (HasLeft : R → List ℕ → Type 0) where
  -- The scripts were read from the files that the words name, and the run is that of just these.
  pub record IsRunOfFiles (folder : FolderContents) (end : ℕ) (words : List ScriptWord)
      (run : SessionRun) : Type 0 where
    pub scripts : List Script
    pub read : AreOfFiles IsOpened HasLeft words scripts
    pub is : IsRunOf folder end scripts run

  -- The scripts were read from the files that the words name, the sink took what the session of
  -- just these says, and its explanation is given; no port is recorded.
  pub record IsSessionExplained {W : Type 0} (HasTaken : W → List ℕ → Type 0)
      (folder : FolderContents) (end : ℕ) (printing : Printing) (words : List ScriptWord)
      (x : Explanation) (old new : W) : Type 0 where
    pub scripts : List Script
    pub read : AreOfFiles IsOpened HasLeft words scripts
    pub took : Took HasTaken old (session_text printing folder end scripts) new
    pub explained : IsExplanationOf folder end scripts [] x
