pub mod Capped
pub mod Grid
pub mod Kept
pub mod Tempos
pub mod Ticks
