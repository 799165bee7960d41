pub mod Four
pub mod Range
pub mod Start
pub mod Count
pub mod Methods
pub mod Age
pub mod Advertise
pub mod ReadBack
