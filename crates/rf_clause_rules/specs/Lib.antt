pub mod Calls
pub mod ClauseOffsets
pub mod Occurrences
