pub mod BodyLemmas
pub mod Built
pub mod EntryLemmas
pub mod KnownVariables
pub mod LiteralCounts
pub mod TermLemmas
