pub mod None
pub mod Law
pub mod Reasons
pub mod Telling
