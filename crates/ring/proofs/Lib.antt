mod Digits
pub mod Bits
pub mod Exactly
pub mod Around
pub mod Faults
pub mod Distances
pub mod Hops
pub mod Links
pub mod Rows
pub mod Bounds
pub mod Pairs
