pub mod CellLemmas
pub mod ListLemmas
pub mod ToldLemmas
pub mod MirrorLemmas
