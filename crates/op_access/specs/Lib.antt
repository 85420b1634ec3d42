pub mod Kinds
pub mod Seeing
pub mod Asks
