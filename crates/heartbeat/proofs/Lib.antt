pub mod Powers
pub mod Doubling
pub mod Pattern
pub mod Written
pub mod Exactly
pub mod Promises
