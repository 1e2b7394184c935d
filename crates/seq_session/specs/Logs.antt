-- Definition: The log of a client, line by line.
use Rattle.std.specs.Prelude.{ℕ, ◌==◌, Bool, true, false, if◌then◌else◌, List, [], ◌∷◌, ◌++◌, length, Option, Some, None, codes, slice_get}
use Rattle.std.specs.List.{flat_map}
use Rattle.std.specs.Fmt.{decimal}
use Rattle.seq_state.specs.declared.log.Arrival.{Arrival}
use Rattle.seq_state.specs.declared.log.Delivery.{Delivery}
use Rattle.seq_state.specs.declared.log.LogEntry.{LogEntry}
use Rattle.seq_state.specs.declared.log.LogEntry.TheVariants.{Delivered, Replied}
use Rattle.seq_state.specs.declared.log.Reply.{Reply}
use Rattle.seq_state.specs.declared.log.Reply.TheVariants.{Done, Refused, Messages, Received, Queue, Pools}
use Rattle.seq_state.specs.declared.refusal.Refusal.{Refusal}
use Rattle.seq_state.specs.declared.refusal.Refusal.TheVariants.{NotOpen, AlreadyOpen, BadName, BadSize, BadRule, NodeExists, NoNode, NoSender, NoDest, NotPermitted, AlreadyConnected, NotConnected, SourcesFull, Cycle, QueueExists, NotYours, NoQueue, QueueRunning, QueueStopped, NoFile, DivisionDiffers, BadTempo, BadTime, OutFull}
use Rattle.seq_state.specs.Refusals.{number_of, refusal_name}
use Rattle.seq_state.specs.Circle.{is_to}
use Rattle.script_text.specs.declared.reading.ScriptRead.{ScriptRead}
use Rattle.script_text.specs.declared.reading.Skip.{Skip}
use Rattle.script_text.specs.Reasons.{reason_text}
use Rattle.text_forms.specs.Hex.{spaced_hex}

-- ---- skipped lines

-- `skip 2 unreadable`
abbrev pub skip_line : Skip → List ℕ
skip_line s = codes "skip " ++ decimal s.line ++ codes " " ++ reason_text s.why ++ codes "\n"

-- ---- messages

-- ` port 0 90 3C 40`
abbrev pub arrival_text : ℕ → List ℕ → List ℕ
arrival_text port message = codes " port " ++ decimal port ++ spaced_hex message ++ codes "\n"

-- `5 port 0 90 3C 40`
abbrev pub delivery_line : Delivery → List ℕ
delivery_line d = decimal d.moment ++ arrival_text d.target.port d.message

-- `got 5 port 0 90 3C 40`
abbrev pub got_line : Arrival → List ℕ
got_line a = codes "got " ++ decimal a.moment ++ arrival_text a.port a.message

-- ---- replies

abbrev pub all_refusals : List Refusal
all_refusals =
    NotOpen ∷ AlreadyOpen ∷ BadName ∷ BadSize ∷ BadRule ∷ NodeExists ∷ NoNode ∷ NoSender ∷ NoDest
    ∷ NotPermitted ∷ AlreadyConnected ∷ NotConnected ∷ SourcesFull ∷ Cycle ∷ QueueExists ∷ NotYours
    ∷ NoQueue ∷ QueueRunning ∷ QueueStopped ∷ NoFile ∷ DivisionDiffers ∷ BadTempo ∷ BadTime
    ∷ OutFull ∷ []

-- the name of the refusal that has the number
abbrev pub name_in : List Refusal → ℕ → List ℕ
name_in [] n = []
name_in (r ∷ rs) n = if number_of r == n then refusal_name r else name_in rs n

abbrev pub name_numbered : ℕ → List ℕ
name_numbered n = name_in all_refusals n

abbrev pub queue_word : Bool → List ℕ
queue_word true = codes "running"
queue_word false = codes "stopped"

-- how a command ended, on the line of the reply
abbrev pub outcome : Reply → List ℕ
outcome Done = codes " ok"
outcome (Messages n) = codes " ok " ++ decimal n
outcome (Received arrivals) = codes " ok " ++ decimal (length arrivals)
outcome (Queue running tick nanos) =
    codes " ok " ++ queue_word running ++ codes " " ++ decimal tick ++ codes " " ++ decimal nanos
outcome (Pools waiting lost used) =
    codes " ok waiting " ++ decimal waiting ++ codes " lost " ++ decimal lost
    ++ codes " used " ++ decimal used
outcome (Refused n) = codes " refused " ++ decimal n ++ codes " " ++ name_numbered n

-- what stands below that line: what was received
abbrev pub below : Reply → List ℕ
below (Received arrivals) = flat_map got_line arrivals
below _ = []

-- `5 line 3`
abbrev pub reply_front : ℕ → ℕ → List ℕ
reply_front moment line = decimal moment ++ codes " line " ++ decimal line

-- a reply has the line of its input; without one it has none
abbrev pub reply_text : ℕ → Option ℕ → Reply → List ℕ
reply_text moment None reply = []
reply_text moment (Some line) reply =
    reply_front moment line ++ outcome reply ++ codes "\n" ++ below reply

-- ---- the log

-- what an entry of the run says to the client; `lines` are those of the inputs
abbrev pub entry_text : ℕ → List ℕ → LogEntry → List ℕ
entry_text client lines (Delivered d) = if is_to client d then delivery_line d else []
entry_text client lines (Replied place moment actor reply) =
    if actor == client then reply_text moment (slice_get lines place) reply else []

abbrev pub skips_text : List Skip → List ℕ
skips_text skips = flat_map skip_line skips

abbrev pub entries_text : ℕ → List ℕ → List LogEntry → List ℕ
entries_text client lines entries = flat_map (entry_text client lines) entries

-- the skipped lines, and then in the order of the run what came to the client and what was replied
-- to it
abbrev pub log_text : ScriptRead → List ℕ → List LogEntry → List ℕ
log_text read lines entries = skips_text read.skips ++ entries_text read.client lines entries
