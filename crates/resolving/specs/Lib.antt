pub mod Walks
pub mod Whole
