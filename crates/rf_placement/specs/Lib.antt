-- what public contracts cite, in the order of reading
pub mod Placement
pub mod Laws
-- what only proofs cite
pub mod Placed
