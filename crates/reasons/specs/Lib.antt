pub mod Why
pub mod Grounds
pub mod inner
