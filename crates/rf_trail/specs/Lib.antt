-- what public contracts cite
pub mod Trail
-- what only the contracts of private functions cite
pub mod Marks
