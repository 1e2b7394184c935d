-- Definition: The texts of the faults.
use Rattle.std.specs.Prelude.{ℕ, List, ◌++◌, codes}
use Rattle.std.specs.Fmt.{decimal}
use Rattle.memory.specs.Faults.{out_of_memory_text}
use Rattle.smf_make.specs.declared.fault.Expected.{Expected}
use Rattle.smf_make.specs.declared.fault.Expected.TheVariants.{Header, Track, Event, End}
use Rattle.smf_make.specs.declared.fault.MakeFault.{MakeFault}
use Rattle.smf_make.specs.declared.fault.MakeFault.TheVariants.{Line, TooLarge, OutOfMemory, Read, TooLong}

-- what was expected, as it is printed
abbrev pub expected_text : Expected → List ℕ
expected_text Header = codes "the header"
expected_text (Track track) = codes "the line of track " ++ decimal track
expected_text (Event from) = codes "an event from tick " ++ decimal from ++ codes " on"
expected_text End = codes "the end of the text"

-- why no file can be made, as it is printed
abbrev pub make_fault_text : MakeFault → List ℕ
make_fault_text (Line line expected) =
    codes "line " ++ (decimal line ++ (codes ": expected " ++ expected_text expected))
make_fault_text (TooLarge line) = codes "line " ++ decimal line ++ codes ": the file is too large"
make_fault_text OutOfMemory = out_of_memory_text
make_fault_text Read = codes "a read failed"
make_fault_text TooLong = codes "the text has more than 1073741824 bytes"
