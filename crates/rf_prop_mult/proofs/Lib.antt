pub mod LocalLemmas
pub mod CandidateLemmas
pub mod FirstLemmas
pub mod AfterLemmas
pub mod NoEndLemmas
pub mod NoBeginLemmas
