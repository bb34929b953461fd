pub mod Satisfied
pub mod AtObjects
pub mod Values
pub mod Placed
pub mod Root
