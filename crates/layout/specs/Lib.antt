pub mod Layout
pub mod Blocks
pub mod Lines
