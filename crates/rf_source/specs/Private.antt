-- For private functions alone: no public contract cites these.
pub mod Stages
