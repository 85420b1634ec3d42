pub mod Measure
pub mod Moving
pub mod Turns
