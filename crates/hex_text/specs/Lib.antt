pub mod Hex
pub mod Fed
pub mod Decoded
