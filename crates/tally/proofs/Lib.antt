mod Cases
pub mod Laws
pub mod Applied
pub mod Runs
