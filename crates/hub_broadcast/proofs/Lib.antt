pub mod Casts
pub mod Joins
pub mod Naming
pub mod Ranking
