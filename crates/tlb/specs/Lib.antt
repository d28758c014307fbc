pub mod Walks
pub mod Steps
pub mod inner
