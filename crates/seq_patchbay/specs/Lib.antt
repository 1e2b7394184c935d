pub mod Leaving
pub mod Listing
pub mod Network
pub mod Rows
