pub mod Decimals
pub mod PrefixLemmas
pub mod IdentifierLemmas
pub mod LineLemmas
pub mod WrittenLemmas
