pub mod Courses
pub mod OrderKept
pub mod OrderStays
