-- Definition: Why a session stops, in words.
use Rattle.std.specs.Prelude.{ℕ, List, ◌++◌, codes}
use Rattle.std.specs.Fmt.{decimal}
use Rattle.memory.specs.Faults.{out_of_memory_text}
use Rattle.seq_session.specs.declared.fault.SessionFault.{SessionFault}
use Rattle.seq_session.specs.declared.fault.SessionFault.TheVariants.{OutOfMemory, Read, Write, WriteListing}

-- a fault of a session as it is printed
abbrev pub session_fault_text : SessionFault → List ℕ
session_fault_text OutOfMemory = out_of_memory_text
session_fault_text (Read client) =
    codes "the script of client " ++ decimal client ++ codes " cannot be read"
session_fault_text (Write client) =
    codes "the log of client " ++ decimal client ++ codes " cannot be written"
session_fault_text WriteListing = codes "the listing cannot be written"
