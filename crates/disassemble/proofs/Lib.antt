pub mod Shown
pub mod Rows
pub mod Telling
pub mod Answers
