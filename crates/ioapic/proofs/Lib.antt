pub mod Loops
pub mod Header
pub mod Blocks
pub mod Steps
