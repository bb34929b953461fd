pub mod MarkingLemmas
pub mod PartialSearch
