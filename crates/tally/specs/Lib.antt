pub mod Tally
pub mod Part
