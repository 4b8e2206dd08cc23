pub mod Numbers
pub mod Tracks
pub mod Reach
pub mod Waiting
