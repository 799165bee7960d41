pub mod Range
pub mod Charge
pub mod Ways
pub mod Short
