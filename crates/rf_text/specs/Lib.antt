pub mod Identifier
pub mod Keyword
pub mod Laws
pub mod Line
pub mod Private
pub mod Written
