pub mod NumberedOffsets
