pub mod Listing
pub mod Telling
pub mod Ending
pub mod Writing
pub mod Naming
