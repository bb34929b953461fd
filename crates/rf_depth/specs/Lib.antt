-- what public contracts cite, in the order of reading
pub mod Depth
pub mod Ways
pub mod Outcomes
pub mod Late
pub mod Measure
pub mod Laws
