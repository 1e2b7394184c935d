pub mod Refused
pub mod Asked
pub mod Recorded
