pub mod Growing
pub mod Strangers
