pub mod Kinds
pub mod Seeing
pub mod Given
pub mod Cutting
