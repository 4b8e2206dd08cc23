pub mod Closes
pub mod InOrder
pub mod InPlace
pub mod Lending
