pub mod Test
pub mod Refusal
pub mod Size
pub mod Hops
pub mod Number
