pub mod Giving
pub mod Runs
pub mod Seats
pub mod Threads
