pub mod Configuration
pub mod Components
pub mod Delta
pub mod View
pub mod Needs
pub mod Demands
