pub mod Numbered
pub mod Clients
pub mod Places
pub mod Tables
pub mod Clearing
