pub mod BoardSteps
pub mod Listening
pub mod Ready
pub mod Ringing
pub mod Seats
