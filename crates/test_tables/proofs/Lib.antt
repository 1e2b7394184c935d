mod Single
mod Tracking
