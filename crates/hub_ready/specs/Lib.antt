pub mod Finding
pub mod Marking
