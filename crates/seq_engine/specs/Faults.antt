-- Definition: What an engine's fault is in words.
use Rattle.std.specs.Prelude.{ℕ, List, codes}
use Rattle.memory.specs.Faults.{out_of_memory_text}
use Rattle.seq_engine.specs.declared.fault.EngineFault.{EngineFault}
use Rattle.seq_engine.specs.declared.fault.EngineFault.TheVariants.{OutOfMemory, Failed}

-- a fault of an engine as it is printed
abbrev pub engine_fault_text : EngineFault → List ℕ
engine_fault_text OutOfMemory = out_of_memory_text
engine_fault_text Failed = codes "an earlier call found no memory"
