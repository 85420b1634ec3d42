pub mod Laws
pub mod Lines
pub mod Grammar
pub mod Fixed
pub mod Spelling
pub mod Steps
pub mod Soaks
