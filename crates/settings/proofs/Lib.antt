pub mod Range
pub mod Words
pub mod Edges
