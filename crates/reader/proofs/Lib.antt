pub mod Rows
pub mod There
pub mod Walk
pub mod Found
pub mod Refused
pub mod Determined
pub mod Examples
