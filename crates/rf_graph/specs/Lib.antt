-- what public contracts cite, in the order of reading
pub mod Graph
pub mod Holds
pub mod Violations
pub mod Document
pub mod BadLine
pub mod Evaluate
pub mod First
pub mod Satisfied
pub mod Laws
-- what only the contracts of private functions cite, and lemmas
pub mod Names
