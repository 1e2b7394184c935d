pub mod Arrays
pub mod Streams
pub mod Mapped
pub mod Seeing
pub mod Changing
pub mod Bodies
pub mod Requeued
pub mod Tested
