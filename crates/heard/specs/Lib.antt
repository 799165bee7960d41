pub mod Range
pub mod Frame
