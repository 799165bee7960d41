pub mod Select
pub mod Pick
pub mod Events
pub mod Frames
