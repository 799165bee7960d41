mod Heads
pub mod Rest
pub mod Passed
mod Made
pub mod Promises
pub mod Pieces
