pub mod Pools
pub mod Cells
pub mod Kept
pub mod Faults
pub mod Lends
pub mod LendsStored
