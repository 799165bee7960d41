pub mod Select
pub mod Picking
pub mod Ready
pub mod Kept
pub mod Events
pub mod Frames
pub mod Examples
