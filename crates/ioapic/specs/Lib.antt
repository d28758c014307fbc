pub mod Blocks
pub mod IoApic
pub mod Bus
