-- Definition: How a refusal is printed.
use Rattle.std.specs.Prelude.{ℕ, List, codes}
use Rattle.memory.specs.Faults.{out_of_memory_text}
use Rattle.patch_graph.specs.declared.fault.EdgeFault.{EdgeFault}
use Rattle.patch_graph.specs.declared.fault.EdgeFault.TheVariants.{AlreadyConnected, SourcesFull, Cycle, OutOfMemory}

-- why a subscription is refused, as it is printed
abbrev pub edge_fault_text : EdgeFault → List ℕ
edge_fault_text AlreadyConnected = codes "already connected"
edge_fault_text SourcesFull = codes "too many sources"
edge_fault_text Cycle = codes "a cycle of filters"
edge_fault_text OutOfMemory = out_of_memory_text
