-- Definition: The texts of the faults.
use Rattle.std.specs.Prelude.{ℕ, List, codes}
use Rattle.memory.specs.Faults.{out_of_memory_text}
use Rattle.byte_io.specs.declared.fault.DeviceFault.{DeviceFault}
use Rattle.byte_io.specs.declared.fault.DeviceFault.TheVariants.{Broken, OutOfMemory}
use Rattle.byte_io.specs.declared.fault.SinkFault.{SinkFault}
use Rattle.byte_io.specs.declared.fault.SinkFault.TheVariants.{Device, TookNothing}

-- a fault of a device as it is printed
abbrev pub device_fault_text : DeviceFault → List ℕ
device_fault_text Broken = codes "the device is broken"
device_fault_text OutOfMemory = out_of_memory_text

-- a fault of a write as it is printed: that of the device, if it was one
abbrev pub sink_fault_text : SinkFault → List ℕ
sink_fault_text (Device fault) = device_fault_text fault
sink_fault_text TookNothing = codes "the device took no byte"
