pub mod Messages
pub mod Readings
pub mod Writings
pub mod Laws
pub mod Rows
pub mod Parsing
pub mod Kinds
pub mod Faults
