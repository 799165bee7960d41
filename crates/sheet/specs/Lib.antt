pub mod Sheet
pub mod Files
