pub mod Account
pub mod Rest
pub mod Pieces
pub mod Lanes
