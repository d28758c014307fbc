pub mod Actions
pub mod Decide
pub mod Step
pub mod Run
pub mod inner
