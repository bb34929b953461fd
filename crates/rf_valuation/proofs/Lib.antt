pub mod NameLemmas
pub mod LineLemmas
pub mod SortedLemmas
pub mod TupleLemmas
