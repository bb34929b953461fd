mod Rows
mod Names
mod Named
mod Made
pub mod Once
