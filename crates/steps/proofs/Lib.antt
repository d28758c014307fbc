pub mod Found
pub mod Whose
