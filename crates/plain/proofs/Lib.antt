pub mod Laws
pub mod Meaning
pub mod Ceiling
pub mod Runs
