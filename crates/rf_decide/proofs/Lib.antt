pub mod Joining
pub mod Allowed
pub mod Chosen
pub mod SameLists
pub mod SizeLemmas
