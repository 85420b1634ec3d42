pub mod Deaths
pub mod Fresh
