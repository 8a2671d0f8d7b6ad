pub mod Walk
pub mod Reads
pub mod Judged
