pub mod Fills
pub mod Held
pub mod Line
pub mod Answers
pub mod Calls
