-- Worked rows: Words, lines and scripts worked out from the definitions.
use Rattle.std.specs.Prelude.{◌≡◌, ℕ, pos, negsuc, List, [], ◌∷◌, ◌++◌, Option, Some, None, codes}
use Rattle.node_table.specs.declared.number.Addr.{Addr}
use Rattle.node_table.specs.declared.number.QueueAddr.{QueueAddr}
use Rattle.node_table.specs.declared.number.Node.TheVariants.{Filter}
use Rattle.route_filter.specs.declared.rule_args.RuleArgs.{RuleArgs}
use Rattle.seq_state.specs.declared.input.Command.{Command}
use Rattle.seq_state.specs.declared.input.Command.TheVariants.{Open, Close, CreatePort, DeletePort, CreateFilter, SetFilter, DeleteFilter, Connect, Disconnect, Bytes, Send, CreateQueue, CreateQueueFrom, DeleteQueue, Start, Stop, Continue, Tempo, QueueStatus, Share, Schedule, Play, DropOutput, Receive, Listen, Unlisten, PoolStatus}
use Rattle.seq_state.specs.declared.input.DueAt.TheVariants.{Tick, TickAfter, Nanos, NanosAfter}
use Rattle.seq_state.specs.Step.{port_addr}
use Rattle.script_text.specs.declared.line_faults.LineFault.TheVariants.{ByteOrderMark, NoMoment, NoCommand, UnknownCommand, Missing, Wrong, NoMessage, TooMany, Remark}
use Rattle.script_text.specs.declared.reading.Skip.{Skip}
use Rattle.script_text.specs.declared.reading.SkipReason.{SkipReason}
use Rattle.script_text.specs.declared.reading.SkipReason.TheVariants.{Unreadable, PastEnd, Late}
use Rattle.script_text.specs.declared.word_kind.WordKind.TheVariants.{NodeNumber, Number8, Number32, Byte, Address, Due, File}
use Rattle.script_text.specs.LineFaults.{line_fault, line_fault_text}
use Rattle.script_text.specs.Words.{lines, words, without_return}
use Rattle.script_text.specs.Numbers.{number, u8, u32, u64, shift, caps, addr, queue, due_word, some_bytes, message}
use Rattle.script_text.specs.Table.{command}
use Rattle.script_text.specs.Scripts.{script, input_at}

-- ---- words

-- Only spaces and tabs part words; of two carriage returns before a line end one stays, as a byte
-- of a word.
pub record WordForms : Type 0 where
  pub tabs : words (codes " 5\t  close\t") ≡ codes "5" ∷ codes "close" ∷ []
  pub none : words (codes " \t ") ≡ []
  pub return : without_return (codes "0 close\r") ≡ codes "0 close"
  pub two_returns : without_return (codes "0 close\r\r") ≡ codes "0 close\r"
  pub return_within : words (codes "a\rb") ≡ codes "a\rb" ∷ []
  pub last_line : lines (codes "a\n\nb") ≡ codes "a" ∷ [] ∷ codes "b" ∷ []
  pub line_end_at_end : lines (codes "a\n") ≡ codes "a" ∷ [] ∷ []

-- ---- numbers

-- 1 to 20 digits, zeros in front included, and no sign but the minus of a shift.
pub record NumberForms : Type 0 where
  pub zero : number (codes "0") ≡ Some 0
  pub zeros : number (codes "00000000000000000007") ≡ Some 7
  pub too_many_digits : number (codes "000000000000000000007") ≡ None
  pub no_digit : number [] ≡ None
  pub plus : number (codes "+1") ≡ None
  pub letter : number (codes "1a") ≡ None
  pub greatest : u64 (codes "18446744073709551615") ≡ Some 18446744073709551615
  pub past : u64 (codes "18446744073709551616") ≡ None
  pub past_twenty : u64 (codes "99999999999999999999") ≡ None
  pub u32_greatest : u32 (codes "4294967295") ≡ Some 4294967295
  pub u32_past : u32 (codes "4294967296") ≡ None
  pub u8_past : u8 (codes "256") ≡ None
  pub minus_zero : shift (codes "-0") ≡ Some (pos 0)
  pub lowest_shift : shift (codes "-32768") ≡ Some (negsuc 32767)
  pub below_shift : shift (codes "-32769") ≡ None
  pub highest_shift : shift (codes "32767") ≡ Some (pos 32767)
  pub above_shift : shift (codes "32768") ≡ None
  pub two_minus : shift (codes "--1") ≡ None
  pub minus_alone : shift (codes "-") ≡ None
  pub shift_plus : shift (codes "+1") ≡ None
  pub all_caps : caps (codes "243") ≡ Some (record { 0 = 243 })
  pub no_caps : caps (codes "0") ≡ Some (record { 0 = 0 })
  pub unknown_cap : caps (codes "4") ≡ None
  pub caps_past : caps (codes "256") ≡ None

-- ---- addresses and times

abbrev pub numbered_filter : ℕ → ℕ → Addr
numbered_filter client filter = record { client = client; node = Filter filter }

abbrev pub numbered_queue : ℕ → ℕ → QueueAddr
numbered_queue client queue = record { client = client; queue = queue }

pub record AddressForms : Type 0 where
  pub port : addr (codes "128:p0") ≡ Some (port_addr 128 0)
  pub filter : addr (codes "191:f15") ≡ Some (numbered_filter 191 15)
  pub zeros : addr (codes "0128:p00") ≡ Some (port_addr 128 0)
  pub port_past : addr (codes "128:p16") ≡ None
  pub client_past : addr (codes "192:p0") ≡ None
  pub client_below : addr (codes "127:p0") ≡ None
  pub no_number : addr (codes "128:p") ≡ None
  pub no_node : addr (codes "128:") ≡ None
  pub no_colon : addr (codes "128p0") ≡ None
  pub two_colons : addr (codes "128::p0") ≡ None
  pub queue_is_no_node : addr (codes "128:q0") ≡ None
  pub queue_here : queue (codes "128:q7") ≡ Some (numbered_queue 128 7)
  pub queue_past : queue (codes "128:q8") ≡ None
  pub tick : due_word (codes "t480") ≡ Some (Tick 480)
  pub tick_after : due_word (codes "t+480") ≡ Some (TickAfter 480)
  pub nanos : due_word (codes "n100") ≡ Some (Nanos 100)
  pub nanos_after : due_word (codes "n+18446744073709551615")
      ≡ Some (NanosAfter 18446744073709551615)
  pub due_past : due_word (codes "n18446744073709551616") ≡ None
  pub due_alone : due_word (codes "t") ≡ None
  pub due_minus : due_word (codes "t-1") ≡ None
  pub due_other : due_word (codes "s1") ≡ None

-- ---- bytes

pub record ByteForms : Type 0 where
  pub either_case : some_bytes (codes "9f" ∷ codes "Fa" ∷ []) ≡ Some (0x9F ∷ 0xFA ∷ [])
  pub no_bytes : some_bytes [] ≡ None
  pub one_digit : some_bytes (codes "9" ∷ []) ≡ None
  pub three_digits : some_bytes (codes "903" ∷ []) ≡ None
  pub no_hex : some_bytes (codes "9G" ∷ []) ≡ None
  pub one_message :
      message (codes "90" ∷ codes "3C" ∷ codes "40" ∷ []) ≡ Some (0x90 ∷ 0x3C ∷ 0x40 ∷ [])
  pub two_messages : message (codes "F8" ∷ codes "F8" ∷ []) ≡ None
  pub part_of_one : message (codes "90" ∷ codes "3C" ∷ []) ≡ None
  pub exclusive :
      message (codes "F0" ∷ codes "7D" ∷ codes "F7" ∷ []) ≡ Some (0xF0 ∷ 0x7D ∷ 0xF7 ∷ [])

-- ---- commands

-- the files of the run in these lines
abbrev pub two_files : List (List ℕ)
two_files = codes "a.mid" ∷ codes "m.mid" ∷ codes "m.mid" ∷ []

abbrev pub said_by : List ℕ → Option Command
said_by line = command two_files (words line)

abbrev pub some_rule : Option ℕ → RuleArgs
some_rule channel = record {
  channels = 65535;
  kinds = record { 0 = 1023 };
  low = 0;
  high = 127;
  shift = negsuc 60;
  channel = channel;
}

pub record CommandForms : Type 0 where
  pub opened : said_by (codes "open a 8 9") ≡ Some (Open (codes "a") 8 9)
  pub any_name : said_by (codes "open #\r 8 8") ≡ Some (Open (codes "#\r") 8 8)
  pub too_few : said_by (codes "open a 8") ≡ None
  pub too_many : said_by (codes "close now") ≡ None
  pub upper_case : said_by (codes "Close") ≡ None
  pub no_word : said_by [] ≡ None
  pub filter :
      said_by (codes "filter 1 99 65535 1023 0 127 -61")
      ≡ Some (CreateFilter 1 (record { 0 = 99 }) (some_rule None))
  pub filter_channel :
      said_by (codes "filter 1 99 65535 1023 0 127 -61 16")
      ≡ Some (CreateFilter 1 (record { 0 = 99 }) (some_rule (Some 16)))
  pub filter_too_many : said_by (codes "filter 1 99 65535 1023 0 127 -61 9 9") ≡ None
  pub set_filter :
      said_by (codes "setfilter 15 65535 1023 0 127 -61 255")
      ≡ Some (SetFilter 15 (some_rule (Some 255)))
  pub connect :
      said_by (codes "connect 131:p0 131:f0")
      ≡ Some (Connect (port_addr 131 0) (numbered_filter 131 0))
  pub bytes : said_by (codes "bytes 0 7D 40") ≡ Some (Bytes 0 (0x7D ∷ 0x40 ∷ []))
  pub no_bytes : said_by (codes "bytes 0") ≡ None
  pub send : said_by (codes "send 0 f8") ≡ Some (Send 0 (0xF8 ∷ []))
  pub first_file : said_by (codes "queuefrom 7 m.mid") ≡ Some (CreateQueueFrom 7 1)
  pub no_file : said_by (codes "play 128:q0 0 none.mid") ≡ Some (Play (numbered_queue 128 0) 0 3)
  pub schedule :
      said_by (codes "schedule 131:q0 0 n5 FE")
      ≡ Some (Schedule (numbered_queue 131 0) 0 (Nanos 5) (0xFE ∷ []))
  pub share : said_by (codes "share 130:q1") ≡ Some (Share (numbered_queue 130 1))
  pub delete_port : said_by (codes "unport 15") ≡ Some (DeletePort 15)
  pub delete_filter : said_by (codes "unfilter 0") ≡ Some (DeleteFilter 0)
  pub disconnect :
      said_by (codes "disconnect 128:f1 191:p2")
      ≡ Some (Disconnect (numbered_filter 128 1) (port_addr 191 2))
  pub queue : said_by (codes "queue 7 480 500000") ≡ Some (CreateQueue 7 480 500000)
  pub delete_queue : said_by (codes "unqueue 128:q3") ≡ Some (DeleteQueue (numbered_queue 128 3))
  pub start : said_by (codes "start 128:q0") ≡ Some (Start (numbered_queue 128 0))
  pub stop : said_by (codes "stop 128:q0") ≡ Some (Stop (numbered_queue 128 0))
  pub resume : said_by (codes "continue 128:q0") ≡ Some (Continue (numbered_queue 128 0))
  pub tempo : said_by (codes "tempo 128:q0 250000") ≡ Some (Tempo (numbered_queue 128 0) 250000)
  pub status : said_by (codes "status 128:q0") ≡ Some (QueueStatus (numbered_queue 128 0))
  pub drop_output : said_by (codes "drop") ≡ Some DropOutput
  pub receive : said_by (codes "receive 2000") ≡ Some (Receive 2000)
  pub listen : said_by (codes "listen") ≡ Some Listen
  pub unlisten : said_by (codes "unlisten") ≡ Some Unlisten

-- ---- faults

-- The first word that is wrong is told, by its place in the line; that of the moment is 1. A wrong
-- word that begins with # is told as a remark; a missing word is missing.
pub record FaultForms : Type 0 where
  pub readable : line_fault (codes "0 open a 8 8") ≡ None
  pub no_words : line_fault (codes " \t\r") ≡ None
  pub remark : line_fault (codes "#1 close close") ≡ None
  pub no_moment : line_fault (codes "soon closed") ≡ Some NoMoment
  pub no_command : line_fault (codes "7") ≡ Some NoCommand
  pub unknown : line_fault (codes "7 Close") ≡ Some UnknownCommand
  pub first_wrong : line_fault (codes "7 connect 128:q0 129:q0") ≡ Some (Wrong 3 Address)
  pub second_wrong : line_fault (codes "7 connect 128:p0 129:q0") ≡ Some (Wrong 4 Address)
  pub first_before_last : line_fault (codes "7 port 16 in 4 5") ≡ Some (Wrong 3 NodeNumber)
  pub missing : line_fault (codes "7 open a 8") ≡ Some (Missing Number32)
  pub missing_file : line_fault (codes "7 play 128:q0 0") ≡ Some (Missing File)
  pub too_many : line_fault (codes "7 drop 1 2") ≡ Some (TooMany 3)
  pub no_byte : line_fault (codes "7 send 0 90 3C 4G") ≡ Some (Wrong 6 Byte)
  pub missing_byte : line_fault (codes "7 bytes 0") ≡ Some (Missing Byte)
  pub no_message : line_fault (codes "7 send 0 90 3C") ≡ Some NoMessage
  pub bytes_alone : line_fault (codes "7 bytes 0 90 3C") ≡ None
  pub no_due : line_fault (codes "7 schedule 128:q0 0 t FE") ≡ Some (Wrong 5 Due)
  pub no_channel :
      line_fault (codes "7 setfilter 0 1 1 0 127 0 256") ≡ Some (Wrong 9 Number8)
  pub two_channels :
      line_fault (codes "7 setfilter 0 1 1 0 127 0 16 16") ≡ Some (TooMany 10)
  pub marked : line_fault (0xEF ∷ 0xBB ∷ 0xBF ∷ codes "0 close") ≡ Some ByteOrderMark
  pub marked_remark : line_fault (0xEF ∷ 0xBB ∷ 0xBF ∷ codes "# keys") ≡ Some ByteOrderMark
  pub part_of_mark : line_fault (0xEF ∷ 0xBB ∷ codes "0 close") ≡ Some NoMoment
  pub remark_behind : line_fault (codes "0 open synth 10 10 # mine") ≡ Some (Remark 6)
  pub remark_for_byte : line_fault (codes "0 bytes 0 90 3C # note") ≡ Some (Remark 6)
  pub remark_for_channel :
      line_fault (codes "7 setfilter 0 1 1 0 127 0 #16") ≡ Some (Remark 9)
  pub remark_for_address : line_fault (codes "7 connect 128:p0 #") ≡ Some (Remark 4)
  pub remark_for_command : line_fault (codes "7 # close") ≡ Some (Remark 2)
  pub name_as_remark : line_fault (codes "7 open # 8") ≡ Some (Missing Number32)

pub record FaultTexts : Type 0 where
  pub wrong : line_fault_text (Wrong 3 Address) ≡ codes "word 3 is not a node (as 128:p0)"
  pub missing : line_fault_text (Missing Address) ≡ codes "a node (as 128:p0) is missing"
  pub too_many :
      line_fault_text (TooMany 10) ≡ codes "there are too many words, from word 10 on"
  pub remark :
      line_fault_text (Remark 6) ≡ codes "a remark has a line of its own: word 6 begins one"

-- ---- scripts

abbrev pub skip_of : ℕ → SkipReason → Skip
skip_of line why = record { line = line; why = why }

-- A script of a client with a line that cannot be read, one that comes too late, and one past the
-- end. A line past the end leaves no moment behind: the last line is taken.
abbrev pub hostile_text : List ℕ
hostile_text =
    codes "0 open x 1 1\nzzz\n1 port 0 in 66\n0 close\n"
    ++ codes "2 connect 128:p0 131:p0\n99 close\n3 connect 131:p0 131:f0"

-- Each reason comes before those after it: what cannot be read is never late, and what is past the
-- end neither. Remarks and lines without words are no lines of the reading, and keep their number;
-- nothing but # begins a remark, and only at the beginning of a line.
abbrev pub remarks_text : List ℕ
remarks_text =
    codes "# a remark\n\n \t\r\n7 close\r\n5 close close\n5 close\n 8 pools\n"
    ++ codes "18446744073709551616 pools\n9 pools\n#\n7\n"

pub record ScriptForms : Type 0 where
  pub hostile : script 131 [] 10 hostile_text ≡
      record {
        client = 131;
        inputs =
            input_at 1 0 131 (Open (codes "x") 1 1)
            ∷ input_at 3 1 131 (CreatePort 0 (codes "in") (record { 0 = 66 }))
            ∷ input_at 5 2 131 (Connect (port_addr 128 0) (port_addr 131 0))
            ∷ input_at 7 3 131 (Connect (port_addr 131 0) (numbered_filter 131 0)) ∷ [];
        skips = skip_of 2 Unreadable ∷ skip_of 4 Late ∷ skip_of 6 PastEnd ∷ [];
      }
  pub remarks : script 128 [] 8 remarks_text ≡
      record {
        client = 128;
        inputs = input_at 4 7 128 Close ∷ input_at 7 8 128 PoolStatus ∷ [];
        skips =
            skip_of 5 Unreadable ∷ skip_of 6 Late ∷ skip_of 8 Unreadable ∷ skip_of 9 PastEnd
            ∷ skip_of 11 Unreadable ∷ [];
      }
  pub empty : script 128 [] 8 [] ≡ record { client = 128; inputs = []; skips = [] }
  pub semicolon : script 128 [] 8 (codes "; a remark\n7 pools ; another\n7 pools\n") ≡
      record {
        client = 128;
        inputs = input_at 3 7 128 PoolStatus ∷ [];
        skips = skip_of 1 Unreadable ∷ skip_of 2 Unreadable ∷ [];
      }
