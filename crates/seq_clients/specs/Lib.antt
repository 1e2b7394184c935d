pub mod Mapped
pub mod Rows
pub mod Bodies
pub mod Roster
pub mod Kept
