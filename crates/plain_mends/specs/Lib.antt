pub mod Resuming
pub mod Waiting
pub mod Sound
