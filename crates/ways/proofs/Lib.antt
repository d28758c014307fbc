pub mod Lists
pub mod Pages
pub mod Real
pub mod Searches
pub mod Blocks
