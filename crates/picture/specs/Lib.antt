pub mod Pages
pub mod Lines
