-- what public contracts cite, in the order of reading
pub mod Families
pub mod Rows
pub mod Changes
pub mod Touching
