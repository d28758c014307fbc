pub mod Guards
pub mod Plans
pub mod Core
pub mod TlbSteps
pub mod BufferStep
pub mod Commit
pub mod inner
