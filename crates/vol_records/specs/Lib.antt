pub mod Lines
pub mod Records
pub mod Streams
pub mod Texts
pub mod Keeping
pub mod Making
pub mod Storing
