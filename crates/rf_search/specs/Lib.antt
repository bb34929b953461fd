-- what public contracts cite, in the order of reading
pub mod Least
pub mod Settled
pub mod Rank
pub mod Course
pub mod Outcome
pub mod Laws
pub mod Pending
-- what only the contracts of private functions cite
pub mod Changed
pub mod Knowledge
pub mod Sides
pub mod Stack
