pub mod Fault
pub mod Passes
pub mod Readable
pub mod Texts
