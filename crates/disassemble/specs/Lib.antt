pub mod Disassembly
pub mod inner
