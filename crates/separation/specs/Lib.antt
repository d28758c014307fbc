pub mod Apart
pub mod Separation
pub mod inner
