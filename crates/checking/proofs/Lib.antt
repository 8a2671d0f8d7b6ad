pub mod Found
pub mod Sequences
pub mod Parts
pub mod Lengths
pub mod Telling
pub mod Headings
pub mod Scripts
