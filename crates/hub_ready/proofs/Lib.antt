pub mod BitLemmas
pub mod FindLemmas
