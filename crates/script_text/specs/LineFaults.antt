-- Definition: Why a line is unreadable, and the words that say so.
use Rattle.std.specs.Prelude.{ℕ, ◌+◌, ◌==◌, ◌&&◌, Bool, true, false, if◌then◌else◌, List, [], ◌∷◌, ◌++◌, Option, Some, None, codes}
use Rattle.std.specs.Fmt.{decimal}
use Rattle.std.specs.List.{find}
use Rattle.std.specs.Option.{is_some, option_or}
use Rattle.std.specs.Str.{bytes_eq}
use Rattle.script_text.specs.declared.line_faults.LineFault.{LineFault}
use Rattle.script_text.specs.declared.line_faults.LineFault.TheVariants.{ByteOrderMark, NoMoment, NoCommand, UnknownCommand, Missing, Wrong, NoMessage, TooMany, Remark}
use Rattle.script_text.specs.declared.line_form.Rest.{Rest}
use Rattle.script_text.specs.declared.line_form.Rest.TheVariants.{Nothing, Message, Bytes, Channel}
use Rattle.script_text.specs.declared.word_kind.WordKind.{WordKind}
use Rattle.script_text.specs.declared.word_kind.WordKind.TheVariants.{Name, Number8, Number16, Number32, Shift, NodeNumber, QueueNumber, Caps, Byte, Address, Queue, Due, File}
use Rattle.script_text.specs.Numbers.{u8, u16, u32, u64, shift, node_number, queue_number, caps, hex_byte, message, addr, queue, due_word}
use Rattle.script_text.specs.Scripts.{is_remark}
use Rattle.script_text.specs.Words.{words, without_return}

-- ---- the forms of the commands

-- whether a word is of this kind
abbrev pub says : WordKind → List ℕ → Bool
says Name word = true
says Number8 word = is_some (u8 word)
says Number16 word = is_some (u16 word)
says Number32 word = is_some (u32 word)
says Shift word = is_some (shift word)
says NodeNumber word = is_some (node_number word)
says QueueNumber word = is_some (queue_number word)
says Caps word = is_some (caps word)
says Byte word = is_some (hex_byte word)
says Address word = is_some (addr word)
says Queue word = is_some (queue word)
says Due word = is_some (due_word word)
says File word = true

-- A command's word, the kinds of the words that always follow it, and what may follow those.
pub record Form : Type 0 where
  pub word : List ℕ
  pub kinds : List WordKind
  pub rest : Rest

abbrev pub form : List ℕ → List WordKind → Rest → Form
form word kinds rest = record { word = word; kinds = kinds; rest = rest }

-- the words of a filter's rule that are always there
abbrev pub rule_kinds : List WordKind
rule_kinds = Number16 ∷ Number16 ∷ Number8 ∷ Number8 ∷ Shift ∷ []

-- a form for each command, in the order of the table
abbrev pub forms : List Form
forms =
    form (codes "schedule") (Queue ∷ NodeNumber ∷ Due ∷ []) Message
    ∷ form (codes "send") (NodeNumber ∷ []) Message
    ∷ form (codes "bytes") (NodeNumber ∷ []) Bytes
    ∷ form (codes "play") (Queue ∷ NodeNumber ∷ File ∷ []) Nothing
    ∷ form (codes "receive") (Number32 ∷ []) Nothing
    ∷ form (codes "open") (Name ∷ Number32 ∷ Number32 ∷ []) Nothing
    ∷ form (codes "close") [] Nothing
    ∷ form (codes "port") (NodeNumber ∷ Name ∷ Caps ∷ []) Nothing
    ∷ form (codes "unport") (NodeNumber ∷ []) Nothing
    ∷ form (codes "filter") (NodeNumber ∷ Caps ∷ rule_kinds) Channel
    ∷ form (codes "setfilter") (NodeNumber ∷ rule_kinds) Channel
    ∷ form (codes "unfilter") (NodeNumber ∷ []) Nothing
    ∷ form (codes "connect") (Address ∷ Address ∷ []) Nothing
    ∷ form (codes "disconnect") (Address ∷ Address ∷ []) Nothing
    ∷ form (codes "queue") (QueueNumber ∷ Number32 ∷ Number32 ∷ []) Nothing
    ∷ form (codes "queuefrom") (QueueNumber ∷ File ∷ []) Nothing
    ∷ form (codes "unqueue") (Queue ∷ []) Nothing
    ∷ form (codes "start") (Queue ∷ []) Nothing
    ∷ form (codes "stop") (Queue ∷ []) Nothing
    ∷ form (codes "continue") (Queue ∷ []) Nothing
    ∷ form (codes "tempo") (Queue ∷ Number32 ∷ []) Nothing
    ∷ form (codes "status") (Queue ∷ []) Nothing
    ∷ form (codes "share") (Queue ∷ []) Nothing
    ∷ form (codes "drop") [] Nothing
    ∷ form (codes "listen") [] Nothing
    ∷ form (codes "unlisten") [] Nothing
    ∷ form (codes "pools") [] Nothing
    ∷ []

-- ---- words that are wrong

-- the fault of a wrong word at this place: one that begins as a remark does is told as one
abbrev pub wrong_word : ℕ → List ℕ → LineFault → LineFault
wrong_word place word fault = if is_remark word then Remark place else fault

-- whether a word begins with the byte order mark of UTF-8
abbrev pub has_mark : List ℕ → Bool
has_mark (a ∷ b ∷ c ∷ word) = (a == 0xEF) && (b == 0xBB) && (c == 0xBF)
has_mark _ = false

-- the fault of a first word that is no moment
abbrev pub moment_fault : List ℕ → LineFault
moment_fault word = if has_mark word then ByteOrderMark else NoMoment

-- ---- the first word that is wrong, of words that stand from a place on

-- no word belongs here
abbrev pub end_fault : ℕ → List (List ℕ) → Option LineFault
end_fault place [] = None
end_fault place (w ∷ words) = Some (wrong_word place w (TooMany place))

-- bytes belong here
abbrev pub byte_fault : ℕ → List (List ℕ) → Option LineFault
byte_fault place [] = None
byte_fault place (w ∷ words) =
    if says Byte w then byte_fault (place + 1) words
    else Some (wrong_word place w (Wrong place Byte))

-- one byte or more belong here
abbrev pub bytes_fault : ℕ → List (List ℕ) → Option LineFault
bytes_fault place [] = Some (Missing Byte)
bytes_fault place (w ∷ words) = byte_fault place (w ∷ words)

-- the full bytes of one message belong here
abbrev pub message_fault : ℕ → List (List ℕ) → Option LineFault
message_fault place words =
    option_or (bytes_fault place words)
    (if is_some (message words) then None else Some NoMessage)

-- a channel belongs here, or nothing
abbrev pub channel_fault : ℕ → List (List ℕ) → Option LineFault
channel_fault place [] = None
channel_fault place (w ∷ words) =
    if says Number8 w then end_fault (place + 1) words
    else Some (wrong_word place w (Wrong place Number8))

abbrev pub rest_fault : Rest → ℕ → List (List ℕ) → Option LineFault
rest_fault Nothing place words = end_fault place words
rest_fault Message place words = message_fault place words
rest_fault Bytes place words = bytes_fault place words
rest_fault Channel place words = channel_fault place words

-- words of these kinds belong here, and then the rest
abbrev pub fault_from : ℕ → List WordKind → Rest → List (List ℕ) → Option LineFault
fault_from place [] rest words = rest_fault rest place words
fault_from place (k ∷ kinds) rest [] = Some (Missing k)
fault_from place (k ∷ kinds) rest (w ∷ words) =
    if says k w then fault_from (place + 1) kinds rest words
    else Some (wrong_word place w (Wrong place k))

-- ---- a line

-- the form of a command's word
abbrev pub form_of : List ℕ → Option Form
form_of word = find (λ f. bytes_eq f.word word) forms

-- of a command's word and its form; the words after it begin with the third
abbrev pub form_fault : List ℕ → Option Form → List (List ℕ) → Option LineFault
form_fault word None words = Some (wrong_word 2 word UnknownCommand)
form_fault word (Some f) words = fault_from 3 f.kinds f.rest words

abbrev pub command_fault : List (List ℕ) → Option LineFault
command_fault [] = Some NoCommand
command_fault (word ∷ words) = form_fault word (form_of word) words

-- a moment, and a command
abbrev pub timed_fault : List (List ℕ) → Option LineFault
timed_fault [] = None
timed_fault (moment ∷ rest) =
    if is_some (u64 moment) then command_fault rest else Some (moment_fault moment)

-- a line without words has no fault, nor has a remark
abbrev pub words_fault : List (List ℕ) → Option LineFault
words_fault [] = None
words_fault (w ∷ rest) = if is_remark w then None else timed_fault (w ∷ rest)

abbrev pub line_fault : List ℕ → Option LineFault
line_fault line = words_fault (words (without_return line))

-- ---- the texts

-- what a word has to be, as it is printed
abbrev pub kind_text : WordKind → List ℕ
kind_text Name = codes "a name"
kind_text Number8 = codes "a number up to 255"
kind_text Number16 = codes "a number up to 65535"
kind_text Number32 = codes "a number up to 4294967295"
kind_text Shift = codes "a shift in semitones (as -12)"
kind_text NodeNumber = codes "a port or filter number 0 to 15"
kind_text QueueNumber = codes "a queue number 0 to 7"
kind_text Caps = codes "a sum of capabilities (as 33)"
kind_text Byte = codes "a byte (as 3C)"
kind_text Address = codes "a node (as 128:p0)"
kind_text Queue = codes "a queue (as 128:q0)"
kind_text Due = codes "a due time (as t480, t+480, n100 or n+100)"
kind_text File = codes "a file"

-- why a line is unreadable, as it is printed
abbrev pub line_fault_text : LineFault → List ℕ
line_fault_text ByteOrderMark =
    codes "it begins with a byte order mark: save the file as plain UTF-8 or ASCII, without it"
line_fault_text NoMoment = codes "its first word is no moment in nanoseconds"
line_fault_text NoCommand = codes "no command follows its moment"
line_fault_text UnknownCommand = codes "its second word is no command"
line_fault_text (Missing kind) = kind_text kind ++ codes " is missing"
line_fault_text (Wrong place kind) =
    codes "word " ++ (decimal place ++ (codes " is not " ++ kind_text kind))
line_fault_text NoMessage = codes "its bytes are not exactly one MIDI message"
line_fault_text (TooMany place) =
    codes "there are too many words, from word " ++ (decimal place ++ codes " on")
line_fault_text (Remark place) =
    codes "a remark has a line of its own: word " ++ (decimal place ++ codes " begins one")
