pub mod Logs
pub mod Lasting
pub mod Heard
pub mod Idle
pub mod Lost
pub mod Ending
pub mod Soonest
