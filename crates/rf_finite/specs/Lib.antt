-- what public contracts cite, in the order of reading
pub mod Lists
pub mod Range
pub mod Walks
pub mod Ends
pub mod Sums
pub mod Firsts
pub mod Tuples
pub mod Totals
pub mod Passing
