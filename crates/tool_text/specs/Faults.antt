-- Definition: The faults of the tools.
use Rattle.std.specs.Prelude.{◌≡◌, ◌⊎◌, ℕ, Bool, true, false, List, Result, Err, codes}
use Rattle.memory.specs.Faults.{out_of_memory_text}
use Rattle.smf_grammar.specs.Faults.{fault_text}
use Rattle.smf_grammar.specs.declared.fault.SmfFault.{SmfFault}
use Rattle.smf_grammar.specs.declared.fault.SmfFault.TheVariants as smf
use Rattle.tool_text.specs.declared.fault.ToolFault.{ToolFault}
use Rattle.tool_text.specs.declared.fault.ToolFault.TheVariants.{OutOfMemory, Read, Write, Smf}

-- a fault in words
abbrev pub tool_fault_text : ToolFault → List ℕ
tool_fault_text OutOfMemory = out_of_memory_text
tool_fault_text Read = codes "a read failed"
tool_fault_text Write = codes "a write failed"
tool_fault_text (Smf fault) = fault_text fault

-- out of memory is that of the tool
abbrev pub tool_fault : SmfFault → ToolFault
tool_fault smf.OutOfMemory = OutOfMemory
tool_fault x = Smf x

-- a fault of a tool that reads a stream: never one of a file
abbrev pub IsOfStream : ToolFault → Type 0
IsOfStream (Smf x) = ⊥
IsOfStream OutOfMemory = Unit {0}
IsOfStream Read = Unit {0}
IsOfStream Write = Unit {0}

-- whether an answer blames the sink
abbrev pub blames_sink : {A : Type 0} → Result A ToolFault → Bool
blames_sink (Err Write) = true
blames_sink _ = false

-- a fault of printing
abbrev pub IsOutput : ToolFault → Type 0
IsOutput e = (e ≡ OutOfMemory) ⊎ (e ≡ Write)
