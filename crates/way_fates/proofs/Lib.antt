pub mod Counted
pub mod Stopping
pub mod Passed
pub mod Fated
pub mod Roomed
pub mod Lawful
