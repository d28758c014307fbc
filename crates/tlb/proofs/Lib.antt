pub mod Fields
pub mod Entries
pub mod Faults
pub mod Deciding
pub mod Flushes
pub mod Steps
