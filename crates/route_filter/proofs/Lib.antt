pub mod Statuses
pub mod Passes
pub mod Voices
pub mod Kept
pub mod Calls
pub mod Sets
pub mod Ranges
pub mod Composed
