-- Definition: What the program is asked to do, and what it prints where it stops.
use Rattle.std.specs.Prelude.{◌≡◌, ◌≢◌, ◌⊎◌, ℕ, Bool, true, false, if◌then◌else◌, List, [], ◌∷◌, ◌++◌, Result, Ok, Err, codes}
use Rattle.std.specs.Fmt.{decimal}
use Rattle.memory.specs.Faults.{out_of_memory_text}
use Rattle.smf_check.specs.declared.answer.CheckAnswer.{CheckAnswer}
use Rattle.smf_check.specs.declared.answer.CheckAnswer.TheVariants as checked
use Rattle.smf_grammar.specs.Faults as smf
use Rattle.smf_make.specs.declared.fault.MakeFault.{MakeFault}
use Rattle.smf_make.specs.declared.fault.MakeFault.TheVariants as making
use Rattle.smf_make.specs.Faults.{make_fault_text}
use Rattle.file_store.specs.declared.standing.Standing.{Standing}
use Rattle.folder_files.specs.Escaped.{escaped_text}
use Rattle.folder_files.specs.Unread.{unread_text}
use Rattle.program_tasks.specs.declared.answer.CircleAnswer.{CircleAnswer}
use Rattle.program_tasks.specs.declared.answer.CircleAnswer.TheVariants as circle
use Rattle.program_tasks.specs.declared.choice.DumpFlags.{DumpFlags}
use Rattle.program_tasks.specs.declared.choice.Grammar.{Grammar}
use Rattle.program_tasks.specs.declared.choice.Grammar.TheVariants.{Strict, Lenient}
use Rattle.program_tasks.specs.declared.choice.Tool.{Tool}
use Rattle.program_tasks.specs.declared.choice.Tool.TheVariants.{Thru, Wire, Dump, DumpAll, DumpPlaces}
use Rattle.program_tasks.specs.declared.choice.Stream.{Stream}
use Rattle.program_tasks.specs.declared.choice.Stream.TheVariants.{Standard, Path}
use Rattle.program_tasks.specs.declared.ending.Ended.{Ended}
use Rattle.program_tasks.specs.declared.ending.Ended.TheVariants.{Done, Shown, Answered, Judged, Checked}
use Rattle.program_tasks.specs.declared.run_answer.RunAnswer.{RunAnswer}
use Rattle.program_tasks.specs.declared.run_answer.RunAnswer.TheVariants.{Complete, Incomplete}
use Rattle.tool_text.specs.declared.fault.ToolFault.{ToolFault}
use Rattle.tool_text.specs.declared.fault.ToolFault.TheVariants as tool
use Rattle.program_tasks.specs.declared.program_fault.ProgramFault.{ProgramFault}
use Rattle.program_tasks.specs.declared.program_fault.ProgramFault.TheVariants.{NotUtf8, NoSubcommand, NotAMoment, NotATime, NotAPort, NotPorts, NotAPpq, NotABpm, NotAForm, NotASource, NotAMessage, NotALine, NotAClient, NotAScript, TwoScripts, OutIsRead, GoesBack, CannotRead, CannotWrite, OutOfMemory, CannotRecord, Smf, Unreadable, LogIsRead, CannotWriteLog, OutIsText, Make}

-- ---- the choice

-- the word that names a tool
abbrev pub tool_name : Tool → List ℕ
tool_name Thru = codes "thru"
tool_name Wire = codes "wire"
tool_name (Dump grammar) = codes "dump"
tool_name (DumpAll grammar) = codes "dump"
tool_name DumpPlaces = codes "dump"

-- the grammar that the flag --lenient, or none, asks for
abbrev pub grammar_of : Bool → Grammar
grammar_of lenient = if lenient then Lenient else Strict

-- what `dump` does with these flags; --at means all of the file, strictly
abbrev pub dump_tool : DumpFlags → Tool
dump_tool flags =
    if flags.at then DumpPlaces
    else (if flags.all then DumpAll (grammar_of flags.lenient)
    else Dump (grammar_of flags.lenient))

-- the word names the tool, and the flags do where the word is `dump`
abbrev pub IsToolNamed : Tool → List ℕ → DumpFlags → Type 0
IsToolNamed tool word flags =
    ((word ≡ codes "thru") × (tool ≡ Thru))
    ⊎ (((word ≡ codes "wire") × (tool ≡ Wire))
    ⊎ ((word ≡ codes "dump") × (tool ≡ dump_tool flags)))

-- the word that names a stream
abbrev pub stream_name : Stream → List ℕ
stream_name Standard = codes "-"
stream_name (Path path) = path.now

-- `-` names standard input, and each other word a path
abbrev pub IsNamedBy : Stream → List ℕ → Type 0
IsNamedBy Standard word = word ≡ codes "-"
IsNamedBy (Path path) word = (path.now ≡ word) × (word ≢ codes "-")

-- ---- the line of a fault

-- what stands in the line of a fault
abbrev pub program_fault_text : ProgramFault → List ℕ
program_fault_text NotUtf8 = codes "an argument is not UTF-8"
program_fault_text NoSubcommand = codes "name a subcommand"
program_fault_text (NotAMoment word) =
    escaped_text word.now
    ++ codes " is no moment in nanoseconds (for a second: --until 1000000000, or --for 1s)"
program_fault_text (NotATime word) =
    escaped_text word.now ++ codes " is no length of time such as 1m30s"
program_fault_text (NotAPort word) =
    escaped_text word.now
    ++ codes " names no port (as 129:0: a client 128 to 191, and a port 0 to 15)"
program_fault_text (NotPorts word) =
    escaped_text word.now
    ++ codes " names no ports (as 129:0,130:1: clients 128 to 191, each with a port 0 to 15)"
program_fault_text (NotAPpq word) =
    escaped_text word.now ++ codes " is no number of ticks per quarter note, 1 to 32767"
program_fault_text (NotABpm word) =
    escaped_text word.now ++ codes " is no number of quarter notes a minute, 4 to 60000000"
program_fault_text (NotAForm word) =
    escaped_text word.now ++ codes " is no form of logs (text, json or csv)"
program_fault_text (NotASource word) =
    escaped_text word.now
    ++ codes " names no port (as 128:p0: a client 128 to 191, and a port 0 to 15)"
program_fault_text (NotAMessage word) =
    escaped_text word.now
    ++ codes " is not exactly one MIDI message in hexadecimal (as \"90 3C 40\")"
program_fault_text (NotALine word) =
    escaped_text word.now ++ codes " names no line of a script (as synth.txt:4)"
program_fault_text (NotAClient word) = escaped_text word.now ++ codes " is no client 128 to 191"
program_fault_text (NotAScript word) =
    escaped_text word.now
    ++ codes " names no script (as 129=synth.txt: a client 128 to 191, and a file)"
program_fault_text (TwoScripts client) =
    codes "client " ++ decimal client ++ codes " has two scripts"
program_fault_text (OutIsRead path) =
    escaped_text path.now ++ codes " is a file that the session reads"
program_fault_text (GoesBack client line) =
    codes "line " ++ decimal line ++ codes " of " ++ decimal client
    ++ codes " goes back in time: give --until"
program_fault_text (CannotRead path) = codes "cannot read " ++ escaped_text path.now
program_fault_text (CannotWrite path) = codes "cannot write " ++ escaped_text path.now
program_fault_text OutOfMemory = out_of_memory_text
program_fault_text CannotRecord = codes "cannot record"
program_fault_text (Smf fault) = smf.fault_text fault
program_fault_text (Unreadable path there) =
    codes "cannot read " ++ (escaped_text path.now ++ unread_text there)
program_fault_text (LogIsRead folder client) =
    escaped_text folder.now ++ codes "/" ++ decimal client
    ++ codes ".log is a file that the session reads"
program_fault_text (CannotWriteLog folder client) =
    codes "cannot write " ++ escaped_text folder.now ++ codes "/" ++ decimal client ++ codes ".log"
program_fault_text (OutIsText path) = escaped_text path.now ++ codes " is the text itself"
program_fault_text (Make fault) = make_fault_text fault

-- what is printed for the fault of a tool that was given a stream
abbrev pub told_text : Stream → ToolFault → List ℕ
told_text stream tool.Read = codes "cannot read " ++ escaped_text (stream_name stream)
told_text stream tool.Write = codes "cannot write " ++ escaped_text (codes "-")
told_text stream tool.OutOfMemory = out_of_memory_text
told_text stream (tool.Smf fault) = smf.fault_text fault

-- what is printed for the fault of a text of which a file was to be made
abbrev pub told_making : Stream → MakeFault → List ℕ
told_making stream making.Read = codes "cannot read " ++ escaped_text (stream_name stream)
told_making stream making.OutOfMemory = out_of_memory_text
told_making stream fault = make_fault_text fault

-- whether the help of the program says more of what is wrong
abbrev pub is_helped : ProgramFault → Bool
is_helped NotUtf8 = false
is_helped NoSubcommand = true
is_helped (NotAMoment word) = true
is_helped (NotATime word) = true
is_helped (NotAPort word) = true
is_helped (NotPorts word) = true
is_helped (NotAPpq word) = true
is_helped (NotABpm word) = true
is_helped (NotAForm word) = true
is_helped (NotASource word) = true
is_helped (NotAMessage word) = true
is_helped (NotALine word) = true
is_helped (NotAClient word) = true
is_helped (NotAScript word) = true
is_helped (TwoScripts client) = true
is_helped (OutIsRead path) = true
is_helped (GoesBack client line) = true
is_helped (CannotRead path) = false
is_helped (CannotWrite path) = false
is_helped OutOfMemory = false
is_helped CannotRecord = false
is_helped (Smf fault) = false
is_helped (Unreadable path there) = false
is_helped (LogIsRead folder client) = true
is_helped (CannotWriteLog folder client) = false
is_helped (OutIsText path) = true
is_helped (Make fault) = false

-- how to ask for help, where that says more
abbrev pub help_hint : ProgramFault → List ℕ
help_hint fault = if is_helped fault then codes "; see midiseq --help" else []

-- what each line of the program begins with
abbrev pub line_start : List ℕ
line_start = codes "midiseq: "

-- the fault of a path that cannot be read is told with what was seen to stand there, but for `-`,
-- and each other fault as it is
abbrev pub IsReasoned : (List ℕ → Standing → Type 0) → ProgramFault → ProgramFault → Type 0
IsReasoned IsStanding (CannotRead path) (Unreadable told there) =
    (told ≡ path) × (path.now ≢ codes "-") × IsStanding path.now there
IsReasoned IsStanding (CannotRead path) told =
    (path.now ≡ codes "-") × (told ≡ CannotRead path)
IsReasoned IsStanding fault told = told ≡ fault

-- the line of a fault, without its end
abbrev pub fault_line : ProgramFault → List ℕ
fault_line fault = line_start ++ program_fault_text fault ++ help_hint fault

-- the line of a file that a run leaves out, without its end
abbrev pub left_out_line : List ℕ → List ℕ
left_out_line name = line_start ++ codes "left out " ++ escaped_text name

-- 2 for a fault in the words, 1 for any other
abbrev pub exit_status : ProgramFault → ℕ
exit_status NotUtf8 = 2
exit_status NoSubcommand = 2
exit_status (NotAMoment word) = 2
exit_status (NotATime word) = 2
exit_status (NotAPort word) = 2
exit_status (NotPorts word) = 2
exit_status (NotAPpq word) = 2
exit_status (NotABpm word) = 2
exit_status (NotAForm word) = 2
exit_status (NotASource word) = 2
exit_status (NotAMessage word) = 2
exit_status (NotALine word) = 2
exit_status (NotAClient word) = 2
exit_status (NotAScript word) = 2
exit_status (TwoScripts client) = 2
exit_status (OutIsRead path) = 2
exit_status (GoesBack client line) = 2
exit_status (CannotRead path) = 1
exit_status (CannotWrite path) = 1
exit_status OutOfMemory = 1
exit_status CannotRecord = 1
exit_status (Smf fault) = 1
exit_status (Unreadable path there) = 1
exit_status (LogIsRead folder client) = 2
exit_status (CannotWriteLog folder client) = 1
exit_status (OutIsText path) = 2
exit_status (Make fault) = 1

-- ---- how the program ends

-- 0 for a circle that is shut, 3 for one that is open
abbrev pub answer_status : CircleAnswer → ℕ
answer_status circle.Shut = 0
answer_status circle.Open = 3

-- 0 for a run that is complete, 3 for one that is not
abbrev pub run_status : RunAnswer → ℕ
run_status Complete = 0
run_status Incomplete = 3

-- 0 where each file that was checked is whole, 1 where one is not
abbrev pub check_status : CheckAnswer → ℕ
check_status checked.AllWhole = 0
check_status checked.SomeNot = 1

-- the status with which it ends
abbrev pub end_status : Result Ended ProgramFault → ℕ
end_status (Ok Done) = 0
end_status (Ok (Shown status)) = status
end_status (Ok (Answered answer)) = answer_status answer
end_status (Ok (Judged answer)) = run_status answer
end_status (Ok (Checked answer)) = check_status answer
end_status (Err fault) = exit_status fault

-- the lines that are shown as it ends: one for a fault, and else none
abbrev pub end_lines : Result Ended ProgramFault → List ℕ
end_lines (Ok ended) = []
end_lines (Err fault) = fault_line fault ++ 10 ∷ []
