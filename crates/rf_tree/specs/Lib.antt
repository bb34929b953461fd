-- what public contracts cite, in the order of reading
pub mod Trees
pub mod Lines
pub mod Pending
pub mod Laws
pub mod Verdicts
pub mod Saturated
pub mod Outcomes
pub mod Document
pub mod Reading
pub mod Readers
-- for private functions
pub mod Private
