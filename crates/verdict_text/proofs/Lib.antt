pub mod Named
pub mod Said
pub mod Asking
pub mod Shown
