mod Loads
pub mod Sizes
