pub mod Stops
pub mod Fates
pub mod Counts
pub mod Kept
pub mod Counting
pub mod Laws
pub mod Rows
