pub mod Numbers
pub mod Rings
pub mod Tracks
pub mod Reach
pub mod Taking
pub mod Ends
