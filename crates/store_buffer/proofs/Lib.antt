pub mod Covers
pub mod Pass
pub mod Access
pub mod Hits
pub mod Beneath
pub mod Served
pub mod Leaves
