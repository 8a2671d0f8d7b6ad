pub mod Words
pub mod Entries
pub mod Verdicts
pub mod Searches
pub mod Spots
