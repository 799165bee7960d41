pub mod Integers
pub mod Range
pub mod Paper
pub mod Rows
pub mod Refused
pub mod Promises
pub mod Runs
