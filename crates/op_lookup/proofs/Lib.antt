pub mod Looking
pub mod Lawful
