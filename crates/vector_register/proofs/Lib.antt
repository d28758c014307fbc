pub mod Least
pub mod Words
pub mod Some
pub mod Registers
