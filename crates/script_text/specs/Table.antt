-- Definition: The commands of a script: a row for each.
use Rattle.std.specs.Prelude.{ℕ, Bool, true, false, if◌then◌else◌, List, [], ◌∷◌, Option, Some, None, codes}
use Rattle.std.specs.Option.{option_map, option_and_then}
use Rattle.std.specs.Str.{bytes_eq}
use Rattle.route_filter.specs.declared.rule_args.RuleArgs.{RuleArgs}
use Rattle.seq_state.specs.declared.input.Command.{Command}
use Rattle.seq_state.specs.declared.input.Command.TheVariants.{Open, Close, CreatePort, DeletePort, CreateFilter, SetFilter, DeleteFilter, Connect, Disconnect, Bytes, Send, CreateQueue, CreateQueueFrom, DeleteQueue, Start, Stop, Continue, Tempo, QueueStatus, Share, Schedule, Play, DropOutput, Receive, Listen, Unlisten, PoolStatus}
use Rattle.script_text.specs.Numbers.{any, u8, u16, u32, shift, node_number, queue_number, caps, some_bytes, message, addr, queue, due_word, number_of_name}

-- what all of the words say
abbrev pub Reads : Type 0 → Type 0
Reads A = List (List ℕ) → Option A

-- no word is left
abbrev pub no_more : List (List ℕ) → Bool
no_more [] = true
no_more (w ∷ words) = false

abbrev pub at_end : {A : Type 0} → A → Reads A
at_end x words = if no_more words then Some x else None

-- what the next word says, and the words after it
abbrev pub word_as : {A : Type 0} → (List ℕ → Option A) → List (List ℕ) → Option (A × List (List ℕ))
word_as read [] = None
word_as read (w ∷ words) = option_map (λ x. (x, words)) (read w)

infixr 10 ◌▸◌
-- the next word, and then those after it
abbrev pub ◌▸◌ : {A B : Type 0} → (List ℕ → Option A) → (A → Reads B) → Reads B
(read ▸ more) words = option_and_then (λ t. more t.0 t.1) (word_as read words)

-- all words that are left
abbrev pub all : {A B : Type 0} → Reads A → (A → B) → Reads B
all read make words = option_map make (read words)

-- a last word or none
abbrev pub maybe : {A : Type 0} → (List ℕ → Option A) → Reads (Option A)
maybe read [] = Some None
maybe read (w ∷ []) = option_map Some (read w)
maybe read (w ∷ v ∷ words) = None

-- the rule of a filter: channels, kinds, lowest and highest note, shift, and a new channel or none
abbrev pub rule : (RuleArgs → Command) → Reads Command
rule make =
    u16 ▸ λ channels. u16 ▸ λ kinds. u8 ▸ λ low. u8 ▸ λ high. shift ▸ λ semitones.
    all (maybe u8) (λ channel. make (record {
      channels = channels;
      kinds = record { 0 = kinds };
      low = low;
      high = high;
      shift = semitones;
      channel = channel;
    }))

-- A command's word, and what the words after it say.
pub record CommandForm : Type 0 where
  pub word : List ℕ
  pub says : Reads Command

abbrev pub command_form : List ℕ → Reads Command → CommandForm
command_form word says = record { word = word; says = says }

-- the number of a file by its name
abbrev pub file : List (List ℕ) → List ℕ → Option ℕ
file names word = Some (number_of_name word names)

-- the table of commands; a word is looked up from the front, so those of long scripts come first
abbrev pub table : List (List ℕ) → List CommandForm
table names =
    command_form (codes "schedule")
    (queue ▸ λ q. node_number ▸ λ p. due_word ▸ λ at. all message (Schedule q p at))
    ∷ command_form (codes "send") (node_number ▸ λ p. all message (Send p))
    ∷ command_form (codes "bytes") (node_number ▸ λ p. all some_bytes (Bytes p))
    ∷ command_form (codes "play")
    (queue ▸ λ q. node_number ▸ λ p. file names ▸ λ f. at_end (Play q p f))
    ∷ command_form (codes "receive") (u32 ▸ λ max. at_end (Receive max))
    ∷ command_form (codes "open")
    (any ▸ λ name. u32 ▸ λ in_size. u32 ▸ λ out_size. at_end (Open name in_size out_size))
    ∷ command_form (codes "close") (at_end Close)
    ∷ command_form (codes "port")
    (node_number ▸ λ p. any ▸ λ name. caps ▸ λ c. at_end (CreatePort p name c))
    ∷ command_form (codes "unport") (node_number ▸ λ p. at_end (DeletePort p))
    ∷ command_form (codes "filter") (node_number ▸ λ f. caps ▸ λ c. rule (CreateFilter f c))
    ∷ command_form (codes "setfilter") (node_number ▸ λ f. rule (SetFilter f))
    ∷ command_form (codes "unfilter") (node_number ▸ λ f. at_end (DeleteFilter f))
    ∷ command_form (codes "connect")
    (addr ▸ λ source. addr ▸ λ target. at_end (Connect source target))
    ∷ command_form (codes "disconnect")
    (addr ▸ λ source. addr ▸ λ target. at_end (Disconnect source target))
    ∷ command_form (codes "queue")
    (queue_number ▸ λ n. u32 ▸ λ ppq. u32 ▸ λ tempo. at_end (CreateQueue n ppq tempo))
    ∷ command_form (codes "queuefrom")
    (queue_number ▸ λ n. file names ▸ λ f. at_end (CreateQueueFrom n f))
    ∷ command_form (codes "unqueue") (queue ▸ λ q. at_end (DeleteQueue q))
    ∷ command_form (codes "start") (queue ▸ λ q. at_end (Start q))
    ∷ command_form (codes "stop") (queue ▸ λ q. at_end (Stop q))
    ∷ command_form (codes "continue") (queue ▸ λ q. at_end (Continue q))
    ∷ command_form (codes "tempo") (queue ▸ λ q. u32 ▸ λ tempo. at_end (Tempo q tempo))
    ∷ command_form (codes "status") (queue ▸ λ q. at_end (QueueStatus q))
    ∷ command_form (codes "share") (queue ▸ λ q. at_end (Share q))
    ∷ command_form (codes "drop") (at_end DropOutput)
    ∷ command_form (codes "listen") (at_end Listen)
    ∷ command_form (codes "unlisten") (at_end Unlisten)
    ∷ command_form (codes "pools") (at_end PoolStatus)
    ∷ []

-- the row of a word, and what the words after it say
abbrev pub by_word : List CommandForm → List ℕ → Reads Command
by_word [] word words = None
by_word (r ∷ rows) word words =
    if bytes_eq r.word word then r.says words else by_word rows word words

abbrev pub command : List (List ℕ) → Reads Command
command names [] = None
command names (word ∷ words) = by_word (table names) word words
