pub mod Limits
pub mod Credit
pub mod Short
pub mod Refused
pub mod Shaper
pub mod Kind
