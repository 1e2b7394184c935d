pub mod Sounding
pub mod Kept
pub mod Laws
pub mod Rows
