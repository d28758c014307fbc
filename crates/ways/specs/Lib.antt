pub mod Ways
pub mod inner
