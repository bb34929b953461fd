pub mod Beginnings
mod Endings
pub mod Joined
