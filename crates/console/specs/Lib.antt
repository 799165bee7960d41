pub mod Meaning
pub mod Place
pub mod Status
pub mod Words
