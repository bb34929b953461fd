-- what public contracts cite, in the order of reading
pub mod State
pub mod StateKnown
pub mod Values
pub mod Laws
pub mod Added
pub mod Meaning
-- what only the contracts of private functions cite
pub mod Root
pub mod Copies
pub mod Lists
pub mod NamedEnds
