pub mod Translate
pub mod inner
