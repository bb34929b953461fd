mod Firsts
mod Pieces
mod Back
mod Truths
mod Settled
mod Nodes
mod Values
mod Classes
mod Counts
mod Shape
mod Scopes
mod Edges
mod Inputs
pub mod Whole
