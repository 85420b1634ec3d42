pub mod Runs
pub mod Numbered
pub mod Ways
pub mod Downs
pub mod GoodLines
