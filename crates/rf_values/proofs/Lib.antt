pub mod Marked
pub mod Single
pub mod Kept
