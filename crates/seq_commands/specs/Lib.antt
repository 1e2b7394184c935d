pub mod Whole
pub mod Turns
pub mod Added
