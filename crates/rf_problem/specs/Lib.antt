-- what public contracts cite, in the order of reading
pub mod Parts
pub mod Classes
pub mod Valid
pub mod Made
pub mod Contained
pub mod Counted
pub mod Merged
pub mod Asserted
pub mod Reading
pub mod Holds
pub mod Follows
pub mod Laws
-- what only the contracts of private functions cite, and lemmas
pub mod Above
pub mod Raised
pub mod Cycles
pub mod Calling
pub mod Spoken
pub mod Keys
pub mod Table
pub mod Patterns
pub mod Noted
pub mod Unwritten
