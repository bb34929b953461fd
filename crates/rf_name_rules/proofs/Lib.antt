pub mod RepeatedNames
