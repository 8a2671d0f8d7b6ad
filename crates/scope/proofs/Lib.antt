pub mod Fronts
pub mod Parts
pub mod Rows
pub mod Searches
pub mod Scopes
