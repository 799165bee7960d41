pub mod Range
pub mod Words
