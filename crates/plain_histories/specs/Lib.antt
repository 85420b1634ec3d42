pub mod Moves
pub mod Opens
pub mod Pasts
pub mod Usages
