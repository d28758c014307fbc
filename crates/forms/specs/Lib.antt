pub mod Syntax
pub mod Named
pub mod inner
