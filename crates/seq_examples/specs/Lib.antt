pub mod Rows
pub mod Examples
pub mod Conditions
pub mod Steps
