pub mod Word
pub mod Ring
pub mod Range
pub mod Used
pub mod Laws
pub mod Examples
