pub mod Bytes
pub mod Blocks
pub mod Counts
pub mod BitRuns
pub mod Walks
