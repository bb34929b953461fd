-- what public contracts cite, in the order of reading
pub mod Laws
pub mod Along
-- what only the contracts of private functions cite, and lemmas
pub mod Marking
