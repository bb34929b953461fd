-- what public contracts cite, in the order of reading
pub mod Choice
pub mod Words
pub mod Laws
pub mod Counted
