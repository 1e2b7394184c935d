pub mod Fronts
pub mod Rows
pub mod Maps
pub mod Swapped
pub mod Keeping
pub mod Taking
pub mod Gathering
pub mod Walking
