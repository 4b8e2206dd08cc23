pub mod Handing
pub mod Lines
pub mod Listings
pub mod NewQueues
