pub mod Course
pub mod Lifecycle
pub mod Order
pub mod OrderLaws
pub mod OrderSeat
pub mod Word
