pub mod Marks
pub mod Cores
pub mod Spoiled
