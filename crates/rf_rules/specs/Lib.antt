-- what public contracts cite, in the order of reading
pub mod Words
pub mod Effects
pub mod Types
pub mod Degrees
pub mod Containment
pub mod Scopes
pub mod Predicates
pub mod Rules
pub mod Containers
pub mod Rows
pub mod DegreeRows
pub mod ScopeRows
pub mod Decisions
pub mod Claims
pub mod Laws
pub mod Applying
-- what only the contracts of private functions cite
pub mod Forcing
