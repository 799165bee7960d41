pub mod Range
pub mod Held
pub mod Tick
pub mod Offer
pub mod Kept
pub mod Events
pub mod Frames
pub mod Examples
