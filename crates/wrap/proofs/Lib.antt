pub mod Exactly
pub mod Courses
mod Steps
pub mod Early
pub mod Lost
pub mod Answers
pub mod Undelivered
pub mod Passing
pub mod Agreement
