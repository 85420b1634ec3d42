pub mod Entries
pub mod Pairs
pub mod LockLists
pub mod Walks
