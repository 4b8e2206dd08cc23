pub mod Casting
pub mod Destinations
pub mod Joining
pub mod Members
pub mod Ranks
pub mod Rising
