pub mod Reported
pub mod Words
pub mod Counted
pub mod Finished
pub mod Forgiving
