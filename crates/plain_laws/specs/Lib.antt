pub mod Refusing
pub mod Fitting
pub mod Clearing
