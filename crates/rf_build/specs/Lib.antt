-- what public contracts cite, in the order of reading
pub mod Resolved
pub mod Small
pub mod Parts
-- what only the contracts of private functions cite
pub mod Arguments
