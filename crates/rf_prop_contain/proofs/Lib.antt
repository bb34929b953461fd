pub mod FirstLemmas
pub mod ChangeLemmas
pub mod LeftLemmas
pub mod StillLemmas
pub mod CoverLemmas
pub mod AcyclicLemmas
pub mod AfterLemmas
