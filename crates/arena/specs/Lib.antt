pub mod Counted
pub mod Layout
