pub mod Summary
pub mod Range
pub mod Answer
pub mod Plain
pub mod Settle
