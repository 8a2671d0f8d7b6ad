pub mod Sizes
pub mod Found
pub mod Safety
