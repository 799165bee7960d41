pub mod Faults
pub mod Parts
pub mod Walk
pub mod Plain
pub mod Last
