pub mod Caching
pub mod Different
pub mod Leading
pub mod Filling
pub mod Answers
