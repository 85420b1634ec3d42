pub mod Modes
pub mod Spared
pub mod InForm
pub mod Names
pub mod OwnLines
