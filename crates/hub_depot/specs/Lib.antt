pub mod DepotError
pub mod Key
pub mod Named
pub mod Putting
