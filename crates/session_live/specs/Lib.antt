pub mod Lines
pub mod Answers
pub mod Circles
pub mod Texts
pub mod Laws
pub mod Rows
pub mod Talk
