pub mod Neat
pub mod Edits
pub mod Entries
pub mod Answering
pub mod Finishing
