pub mod Past
pub mod VariablesPast
