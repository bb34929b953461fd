pub mod CallerLemmas
pub mod LooseLemmas
pub mod OccurrenceLemmas
pub mod RankedCallers
pub mod RecursionLemmas
