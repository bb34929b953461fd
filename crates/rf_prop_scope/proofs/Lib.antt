pub mod LocalLemmas
pub mod FirstLemmas
