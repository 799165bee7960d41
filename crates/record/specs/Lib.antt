pub mod Record
pub mod Items
pub mod Read
pub mod Step
pub mod Cause
