pub mod Arguments
pub mod Wrong
pub mod Judged
pub mod inner
