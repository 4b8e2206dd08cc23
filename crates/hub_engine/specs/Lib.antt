pub mod Status
pub mod Ending
pub mod IsInput
pub mod Failures
pub mod Counted
pub mod Beginning
pub mod OutOfMemory
pub mod Engine
