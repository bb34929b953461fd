-- what public contracts cite, in the order of reading
pub mod Entries
pub mod Words
pub mod Laws
-- what only the contracts of private functions cite
pub mod Writes
