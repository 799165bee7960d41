pub mod Parsing
pub mod ReadBack
pub mod Bits
pub mod Examples
