pub mod Plain
pub mod Range
pub mod Ceiling
