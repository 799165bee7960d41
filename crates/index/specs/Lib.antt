pub mod Tree
pub mod Entry
pub mod Index
pub mod Levels
pub mod Fill
