pub mod Kinds
pub mod Seeing
pub mod Looking
pub mod Deleting
pub mod Naming
