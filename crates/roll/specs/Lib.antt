pub mod Rolled
pub mod Moved
pub mod Exactly
pub mod Steps
