pub mod Links
pub mod Choosing
pub mod Pairs
