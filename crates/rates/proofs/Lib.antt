pub mod Formulas
pub mod Shift
pub mod Bounds
pub mod Series
pub mod Steady
