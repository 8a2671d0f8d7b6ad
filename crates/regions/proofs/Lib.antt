pub mod Bounds
pub mod Answered
pub mod Quotas
pub mod Tables
