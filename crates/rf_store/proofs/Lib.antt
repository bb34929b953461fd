pub mod Order
pub mod Trees
pub mod Joins
pub mod RightJoins
pub mod Inserts
pub mod Lookups
pub mod Maps
pub mod Versions
