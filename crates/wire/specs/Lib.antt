pub mod Wire
pub mod Parts
pub mod Signed
pub mod Words
