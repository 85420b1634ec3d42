pub mod Kinds
pub mod Seeing
