pub mod Rows
pub mod Numbers
pub mod Types
pub mod Apart
pub mod Ranges
