-- For private functions alone: no public contract cites these.
pub mod Parsing
pub mod Parts
