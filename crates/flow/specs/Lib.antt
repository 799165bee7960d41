pub mod Parts
pub mod Range
pub mod Tick
pub mod Offer
pub mod Leave
pub mod Events
pub mod Frames
