-- what public contracts cite, in the order of reading
pub mod Known
pub mod Literals
pub mod Elements
pub mod Kept
pub mod Search
-- what only the contracts of private functions cite
pub mod Terms
pub mod Evaluating
pub mod Steps
pub mod Gathering
pub mod Hunts
pub mod Narrowing
