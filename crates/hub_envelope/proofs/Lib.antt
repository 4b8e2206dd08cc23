pub mod ReadNumbers
pub mod ReadValues
mod Digits
mod ReadCompact
mod Fronts
pub mod Answers
pub mod Equalities
pub mod BodyBytes
