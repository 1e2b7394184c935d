pub mod Tracks
pub mod Seen
pub mod Laws
pub mod Rows
