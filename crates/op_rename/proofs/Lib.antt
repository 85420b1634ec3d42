pub mod Orders
pub mod Outcomes
pub mod Chains
pub mod Brief
pub mod Lawful
pub mod Behind
pub mod OfVolume
