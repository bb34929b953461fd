-- what public contracts cite, in the order of reading
pub mod SoundRules
pub mod Laws
pub mod Ends
pub mod Forced
pub mod Conditions
