pub mod Names
pub mod Paths
pub mod Contents
pub mod Escaped
pub mod Unread
