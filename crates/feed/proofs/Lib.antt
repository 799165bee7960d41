pub mod Rows
pub mod Fronts
pub mod Held
pub mod Items
pub mod Promises
