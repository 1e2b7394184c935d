pub mod Shut
pub mod Least
pub mod Mending
pub mod Laws
pub mod Finding
pub mod Mattering
