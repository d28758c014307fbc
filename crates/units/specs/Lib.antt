pub mod Control
pub mod Alu
pub mod Overflow
pub mod Multiplication
pub mod Branch
pub mod Shift
