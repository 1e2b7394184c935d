pub mod Ordered
pub mod Filtered
