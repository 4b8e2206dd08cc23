pub mod Written
pub mod Asked
pub mod Below
