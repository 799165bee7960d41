pub mod Numeral
pub mod Filled
pub mod Lengths
pub mod Fits
pub mod Promises
