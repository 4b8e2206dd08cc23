pub mod TextLines
pub mod Word
pub mod Number
pub mod EndList
pub mod Reading
