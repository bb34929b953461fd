pub mod Private
pub mod Source
