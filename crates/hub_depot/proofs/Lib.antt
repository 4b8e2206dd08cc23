pub mod Keys
pub mod ManyPut
pub mod NamedMap
