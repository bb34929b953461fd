pub mod RowLemmas
pub mod TouchLemmas
pub mod SameRows
pub mod CoverLemmas
pub mod LeastLemmas
pub mod AfterLemmas
