pub mod Rows
pub mod Digits
pub mod Steps
pub mod Ends
pub mod Rest
pub mod Text
pub mod Promises
