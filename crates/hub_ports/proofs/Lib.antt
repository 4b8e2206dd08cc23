pub mod Arrivals
pub mod Dooms
pub mod Flights
pub mod Listed
pub mod Refused
pub mod Splits
pub mod Tellings
