pub mod Plays
pub mod Printing
pub mod Reading
pub mod Statuses
