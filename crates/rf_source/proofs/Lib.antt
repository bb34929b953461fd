pub mod ReadableLemmas
pub mod StageLemmas
