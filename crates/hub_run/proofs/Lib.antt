pub mod Gives
pub mod Logs
pub mod Peers
pub mod Seating
