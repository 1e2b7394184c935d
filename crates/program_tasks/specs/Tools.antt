-- Definition: What the tools print, and what they tell.
use Rattle.std.specs.Prelude.{ℕ, List}
use Rattle.program_tasks.specs.declared.choice.Tool.{Tool}
use Rattle.program_tasks.specs.declared.choice.Tool.TheVariants.{Thru, Wire, Dump, DumpAll, DumpPlaces}
use Rattle.program_tasks.specs.declared.choice.Grammar.TheVariants.{Strict, Lenient}
use Rattle.tool_text.specs.declared.fault.ToolFault.{ToolFault}
use Rattle.tool_text.specs.Faults.{IsOfStream}
use Rattle.tool_text.specs.Stream.{IsRendered, IsRenderedInPart}
use Rattle.tool_text.specs.Thru.{thru_text}
use Rattle.tool_text.specs.Wire.{wire_text}
use Rattle.tool_text.specs.Dump.{dump_of, IsDumped, IsDumpedInPart, TellsFault}
use Rattle.smf_text.specs.AllTexts.{all_text}
use Rattle.smf_text.specs.AllDumped.{IsAllDumped, IsAllDumpedInPart}
use Rattle.smf_text.specs.PlacesDumped.{IsPlacesDumped, IsPlacesDumpedInPart}
use Rattle.lenient_text.specs.LenientDumped.{IsDumpedLeniently, IsDumpedLenientlyInPart, TellsLenientFault}

-- the source was read to its end, and the sink took what the tool prints for what the reads gave
abbrev pub IsPrinted : {R W : Type 0} →
    (R → List ℕ → Type 0) → (W → List ℕ → Type 0) → Tool → R → R → W → W → Type 0
IsPrinted HasLeft HasTaken Thru before after old new =
    IsRendered HasLeft HasTaken thru_text before after old new
IsPrinted HasLeft HasTaken Wire before after old new =
    IsRendered HasLeft HasTaken wire_text before after old new
IsPrinted HasLeft HasTaken (Dump Strict) before after old new =
    IsDumped HasLeft HasTaken before after old new
IsPrinted HasLeft HasTaken (Dump Lenient) before after old new =
    IsDumpedLeniently dump_of HasLeft HasTaken before after old new
IsPrinted HasLeft HasTaken (DumpAll Strict) before after old new =
    IsAllDumped HasLeft HasTaken before after old new
IsPrinted HasLeft HasTaken (DumpAll Lenient) before after old new =
    IsDumpedLeniently all_text HasLeft HasTaken before after old new
IsPrinted HasLeft HasTaken DumpPlaces before after old new =
    IsPlacesDumped HasLeft HasTaken before after old new

-- the sink took the first part of what the tool prints for what the reads gave, or for a first part
-- of that
abbrev pub IsPrintedInPart : {R W : Type 0} →
    (R → List ℕ → Type 0) → (W → List ℕ → Type 0) → Tool → R → R → W → W → Type 0
IsPrintedInPart HasLeft HasTaken Thru before after old new =
    IsRenderedInPart HasLeft HasTaken thru_text before after old new
IsPrintedInPart HasLeft HasTaken Wire before after old new =
    IsRenderedInPart HasLeft HasTaken wire_text before after old new
IsPrintedInPart HasLeft HasTaken (Dump Strict) before after old new =
    IsDumpedInPart HasLeft HasTaken before after old new
IsPrintedInPart HasLeft HasTaken (Dump Lenient) before after old new =
    IsDumpedLenientlyInPart dump_of HasLeft HasTaken before after old new
IsPrintedInPart HasLeft HasTaken (DumpAll Strict) before after old new =
    IsAllDumpedInPart HasLeft HasTaken before after old new
IsPrintedInPart HasLeft HasTaken (DumpAll Lenient) before after old new =
    IsDumpedLenientlyInPart all_text HasLeft HasTaken before after old new
IsPrintedInPart HasLeft HasTaken DumpPlaces before after old new =
    IsPlacesDumpedInPart HasLeft HasTaken before after old new

-- a fault that the tool may tell of what the reads gave: one of a file only where it reads a file,
-- and then the bytes' own
abbrev pub MayTell : {R : Type 0} → (R → List ℕ → Type 0) → Tool → R → R → ToolFault → Type 0
MayTell HasLeft Thru before after fault = IsOfStream fault
MayTell HasLeft Wire before after fault = IsOfStream fault
MayTell HasLeft (Dump Strict) before after fault = TellsFault HasLeft before after fault
MayTell HasLeft (Dump Lenient) before after fault = TellsLenientFault HasLeft before after fault
MayTell HasLeft (DumpAll Strict) before after fault = TellsFault HasLeft before after fault
MayTell HasLeft (DumpAll Lenient) before after fault = TellsLenientFault HasLeft before after fault
MayTell HasLeft DumpPlaces before after fault = TellsFault HasLeft before after fault
