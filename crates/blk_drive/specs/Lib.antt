pub mod Images
pub mod Loads
pub mod Memory
pub mod Telling
