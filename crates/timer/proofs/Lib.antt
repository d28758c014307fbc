pub mod Sound
pub mod Cases
pub mod Changes
