pub mod Equal
pub mod Chunks
