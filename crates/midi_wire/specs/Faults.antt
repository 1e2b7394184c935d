-- Definition: The texts of the faults.
use Rattle.std.specs.Prelude.{ℕ, List, codes}
use Rattle.memory.specs.Faults.{out_of_memory_text}
use Rattle.midi_wire.specs.declared.fault.WireFault.{WireFault}
use Rattle.midi_wire.specs.declared.fault.WireFault.TheVariants.{OutOfMemory, Failed}

-- a fault of a parser as it is printed
abbrev pub wire_fault_text : WireFault → List ℕ
wire_fault_text OutOfMemory = out_of_memory_text
wire_fault_text Failed = codes "an earlier call found no memory"
