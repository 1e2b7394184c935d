-- Definition: The texts of the faults.
use Rattle.std.specs.Prelude.{ℕ, List, codes}
use Rattle.memory.specs.Faults.{out_of_memory_text}
use Rattle.tempo_clock.specs.declared.fault.MapFault.{MapFault}
use Rattle.tempo_clock.specs.declared.fault.MapFault.TheVariants.{BadMap, OutOfMemory}

-- a fault of a tempo map as it is printed
abbrev pub map_fault_text : MapFault → List ℕ
map_fault_text BadMap = codes "no tempo map"
map_fault_text OutOfMemory = out_of_memory_text
