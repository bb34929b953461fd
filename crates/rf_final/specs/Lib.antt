-- what public contracts cite, in the order of reading
pub mod GraphOf
pub mod Reached
pub mod Laws
-- what only proofs cite
pub mod Standing
