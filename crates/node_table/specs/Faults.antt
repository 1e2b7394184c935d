-- Definition: What comes back with a refusal, and how one is printed.
use Rattle.std.specs.Prelude.{ℕ, List, codes}
use Rattle.memory.specs.Faults.{out_of_memory_text}
use Rattle.node_table.specs.declared.fault.CreateFault.{CreateFault}
use Rattle.node_table.specs.declared.fault.CreateFault.TheVariants.{NotOpen, BadName, Exists, OutOfMemory}
use Rattle.node_table.specs.declared.fault.OpenFault.{OpenFault}
use Rattle.node_table.specs.declared.fault.OpenFault.TheVariants as open_fault

abbrev pub body_of : {P : Type 0} → CreateFault P → P
body_of (NotOpen body) = body
body_of (BadName body) = body
body_of (Exists body) = body
body_of (OutOfMemory body) = body

-- why a client was not opened, as it is printed
abbrev pub open_fault_text : OpenFault → List ℕ
open_fault_text open_fault.AlreadyOpen = codes "the client is open already"
open_fault_text open_fault.BadName = codes "this is no name"
open_fault_text open_fault.OutOfMemory = out_of_memory_text
