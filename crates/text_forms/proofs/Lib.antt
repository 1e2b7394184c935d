pub mod Lines
pub mod Hexed
