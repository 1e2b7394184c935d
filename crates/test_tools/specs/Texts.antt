-- Definition: What a tool prints of bytes that are known.
use Rattle.std.specs.Prelude.{◌≡◌, ◌++◌, ℕ, Bool, true, false, List}
use Rattle.smf_grammar.specs.declared.fault.SmfFault.{SmfFault}
use Rattle.smf_grammar.specs.Files.{MidiFile, IsFile, Fault}
use Rattle.smf_mend.specs.declared.forgiven.Mended.{Mended}
use Rattle.smf_mend.specs.Unwrapping.{IsMendedIn, IsRefusedIn}
use Rattle.program_tasks.specs.declared.choice.Tool.{Tool}
use Rattle.program_tasks.specs.declared.choice.Tool.TheVariants.{Thru, Wire, Dump, DumpAll, DumpPlaces}
use Rattle.program_tasks.specs.declared.choice.Grammar.TheVariants.{Strict, Lenient}
use Rattle.tool_text.specs.declared.fault.ToolFault.{ToolFault}
use Rattle.tool_text.specs.declared.fault.ToolFault.TheVariants.{OutOfMemory, Read, Write, Smf}
use Rattle.smf_text.specs.AllTexts.{all_text}
use Rattle.smf_text.specs.PlacedTexts.{placed_text}
use Rattle.lenient_text.specs.LenientDumped.{forgiven_lines}
use Rattle.tool_text.specs.Dump.{dump_of}
use Rattle.tool_text.specs.Faults.{IsOfStream}
use Rattle.tool_text.specs.Thru.{thru_text}
use Rattle.tool_text.specs.Wire.{wire_text}

-- the text is that of what the bytes are leniently, and of what was forgiven
abbrev pub IsLenientTextOf : (MidiFile → List ℕ) → List ℕ → List ℕ → Type 0
IsLenientTextOf text_of bytes text =
    (m : Mended) × (mended : IsMendedIn bytes m)
    × (text ≡ text_of mended.mended.f ++ forgiven_lines m)

-- the text is that of the bytes; what is dumped is a file
abbrev pub IsTextOf : Tool → List ℕ → List ℕ → Type 0
IsTextOf Thru bytes text = text ≡ thru_text bytes
IsTextOf Wire bytes text = text ≡ wire_text bytes
IsTextOf (Dump Strict) bytes text = (f : MidiFile) × IsFile bytes f × (text ≡ dump_of f)
IsTextOf (Dump Lenient) bytes text = IsLenientTextOf dump_of bytes text
IsTextOf (DumpAll Strict) bytes text = (f : MidiFile) × IsFile bytes f × (text ≡ all_text f)
IsTextOf (DumpAll Lenient) bytes text = IsLenientTextOf all_text bytes text
IsTextOf DumpPlaces bytes text =
    (f : MidiFile) × (file : IsFile bytes f) × (text ≡ placed_text true bytes file)

-- the tool reads a file, by the grammar of the standard
abbrev pub reads_file : Tool → Bool
reads_file Thru = false
reads_file Wire = false
reads_file (Dump Strict) = true
reads_file (Dump Lenient) = false
reads_file (DumpAll Strict) = true
reads_file (DumpAll Lenient) = false
reads_file DumpPlaces = true

-- a fault of a file is such a one
abbrev pub IsFileFault : (SmfFault → Type 0) → ToolFault → Type 0
IsFileFault IsSuch (Smf x) = IsSuch x
IsFileFault IsSuch OutOfMemory = Unit {0}
IsFileFault IsSuch Read = Unit {0}
IsFileFault IsSuch Write = Unit {0}

-- a fault of a file is reported of no stream, and of a file only its own
abbrev pub IsFaultOf : Tool → List ℕ → ToolFault → Type 0
IsFaultOf Thru bytes fault = IsOfStream fault
IsFaultOf Wire bytes fault = IsOfStream fault
IsFaultOf (Dump Strict) bytes fault = IsFileFault (Fault bytes) fault
IsFaultOf (Dump Lenient) bytes fault = IsFileFault (IsRefusedIn bytes) fault
IsFaultOf (DumpAll Strict) bytes fault = IsFileFault (Fault bytes) fault
IsFaultOf (DumpAll Lenient) bytes fault = IsFileFault (IsRefusedIn bytes) fault
IsFaultOf DumpPlaces bytes fault = IsFileFault (Fault bytes) fault
