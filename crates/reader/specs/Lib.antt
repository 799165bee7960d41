pub mod Place
pub mod Walk
