pub mod Verdicts
pub mod Named
pub mod Checks
pub mod Checking
pub mod Rows
