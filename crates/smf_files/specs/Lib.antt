pub mod Taken
pub mod Kept
pub mod Playing
pub mod Faults
pub mod Refusals
pub mod Rising
