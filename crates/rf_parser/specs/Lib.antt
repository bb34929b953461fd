pub mod Fit
pub mod Private
pub mod Refusal
