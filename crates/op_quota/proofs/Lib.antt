pub mod ShowLaw
pub mod SetLaw
pub mod Lawful
