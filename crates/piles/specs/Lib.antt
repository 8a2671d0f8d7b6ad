pub mod Either
pub mod Ground
pub mod Pile
pub mod Build
