pub mod Round
pub mod Files
