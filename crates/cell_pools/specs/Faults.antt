-- Definition: What comes back with a refusal, and how one is printed.
use Rattle.std.specs.Prelude.{ℕ, List, codes}
use Rattle.memory.specs.Faults.{out_of_memory_text}
use Rattle.cell_pools.specs.declared.fault.PutFault.{PutFault}
use Rattle.cell_pools.specs.declared.fault.PutFault.TheVariants.{Full, OutOfMemory}
use Rattle.cell_pools.specs.declared.fault.PoolFault.{PoolFault}
use Rattle.cell_pools.specs.declared.fault.PoolFault.TheVariants as pool_fault

abbrev pub value_of : {T : Type 0} → PutFault T → T
value_of (Full value) = value
value_of (OutOfMemory value) = value

-- why a pool was not made, as it is printed
abbrev pub pool_fault_text : PoolFault → List ℕ
pool_fault_text pool_fault.BadSize = codes "a pool's size is 1 to 2000"
pool_fault_text pool_fault.OutOfMemory = out_of_memory_text
