pub mod Resources
pub mod FanResources
pub mod GroupResources
pub mod Held
pub mod Handles
