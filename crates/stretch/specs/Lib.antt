pub mod Found
pub mod Used
pub mod Parting
pub mod Stretch
