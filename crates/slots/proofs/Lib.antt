pub mod Steps
pub mod Round
pub mod Anew
pub mod Runs
