pub mod Standing
pub mod Cursors
pub mod Parts
pub mod Growth
pub mod Heads
pub mod Answers
