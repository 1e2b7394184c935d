pub mod Seen
pub mod Begun
pub mod Ending
pub mod Faults
pub mod Losses
pub mod NextLaws
