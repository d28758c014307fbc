pub mod Rows
pub mod Named
