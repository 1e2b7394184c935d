pub mod Faults
pub mod Marks
pub mod Memory
pub mod Moved
pub mod Std
