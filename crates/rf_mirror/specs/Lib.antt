-- what public contracts cite
pub mod Meaning
-- what only the contracts of private functions cite
pub mod Cells
pub mod Mirror
pub mod Sources
