-- what public contracts cite, in the order of reading
pub mod Words
pub mod Table
pub mod Maps
pub mod Meaning
pub mod Laws
-- what only the contracts of private functions cite
pub mod Rows
pub mod Copies
