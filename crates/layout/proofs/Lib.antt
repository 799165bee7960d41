pub mod Words
pub mod Groups
pub mod Round
pub mod Anew
pub mod Kept
pub mod Range
