pub mod Files
pub mod Noted
pub mod Reading
pub mod Sizes
pub mod Views
