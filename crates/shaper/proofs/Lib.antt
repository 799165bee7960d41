pub mod Credit
pub mod Short
pub mod Charge
pub mod Kind
pub mod Ranges
pub mod Turned
