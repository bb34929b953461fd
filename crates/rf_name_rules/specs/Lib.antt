pub mod NameOffsets
