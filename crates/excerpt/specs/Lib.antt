pub mod Place
pub mod Excerpt
pub mod Last
