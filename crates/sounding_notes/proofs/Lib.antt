pub mod Added
pub mod Hearing
pub mod Parts
pub mod Started
