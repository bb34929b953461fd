-- what public contracts cite, in the order of reading
pub mod Truth
pub mod Count
pub mod ClassSet
-- what only the contracts of private functions cite, and lemmas
pub mod Tuple
pub mod Words
pub mod WordLemmas
