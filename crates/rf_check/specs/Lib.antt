-- what public contracts cite, in the order of reading
pub mod Documents
pub mod Kept
pub mod Checking
pub mod Verifying
pub mod Laws
-- for private functions
pub mod Steps
