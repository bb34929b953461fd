-- what public contracts cite
pub mod Pending
-- what only the contracts of private functions cite
pub mod Dependence
pub mod Kinds
pub mod Best
pub mod Asserting
pub mod Looking
