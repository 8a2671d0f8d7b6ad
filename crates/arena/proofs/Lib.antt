pub mod Splits
pub mod Stretches
