pub mod Text
pub mod Report
