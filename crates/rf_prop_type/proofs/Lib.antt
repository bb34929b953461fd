pub mod FirstLemmas
pub mod LocalLemmas
pub mod AfterLemmas
