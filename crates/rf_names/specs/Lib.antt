pub mod Texts
pub mod Bodies
pub mod Declarations
pub mod Offsets
pub mod Gathering
pub mod LookUp
pub mod Ranks
pub mod Tables
