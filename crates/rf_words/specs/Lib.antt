pub mod Arguments
pub mod Meaning
pub mod Reader
pub mod Laws
