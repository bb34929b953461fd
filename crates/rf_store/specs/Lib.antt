-- what public contracts cite, in the order of reading
pub mod Entries
pub mod Contents
-- what only the contracts of private functions cite, and lemmas
pub mod Part
pub mod Rows
pub mod Tree
pub mod Store
