pub mod Which
pub mod Short
pub mod Range
pub mod Way
