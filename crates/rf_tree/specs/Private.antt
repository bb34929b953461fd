-- For private functions: what public contracts cite doesn't rest on these, but for what a reader holds.
pub mod Words
pub mod Fields
pub mod Entries
pub mod Readers
