pub mod Gathered
pub mod Stream
pub mod Headings
pub mod Thru
pub mod Wire
pub mod Dump
pub mod Faults
pub mod Rows
