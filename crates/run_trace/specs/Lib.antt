pub mod Texts
pub mod Reads
pub mod Steps
pub mod Traced
pub mod Walks
pub mod Inside
