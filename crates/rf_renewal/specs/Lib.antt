-- what public contracts cite, in the order of reading
pub mod Patterns
pub mod Changes
pub mod Covered
pub mod Comparing
pub mod Table
pub mod Edits
pub mod Grown
pub mod Resting
pub mod Laws
