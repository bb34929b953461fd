-- what public contracts cite
pub mod Valuation
-- what private functions use
pub mod Separator
