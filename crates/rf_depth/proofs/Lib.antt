pub mod SumLemmas
pub mod Grows
pub mod Steps
pub mod NodeEnds
pub mod Bounds
pub mod Ways
pub mod Longest
pub mod Few
