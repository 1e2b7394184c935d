pub mod Changed
pub mod Gone
pub mod Routes
pub mod Texts
pub mod Listed
