pub mod Origin
pub mod Refusal
