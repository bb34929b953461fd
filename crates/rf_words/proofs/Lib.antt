pub mod Rows
pub mod Readers
pub mod Turns
pub mod Walks
pub mod Taken
pub mod Fronts
pub mod Meanings
