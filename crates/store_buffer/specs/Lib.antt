pub mod Buffer
pub mod System
pub mod Leaving
pub mod Figures
pub mod inner
