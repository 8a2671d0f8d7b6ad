pub mod Compiled
pub mod Held
pub mod Safe
pub mod Worked
