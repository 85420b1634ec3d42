pub mod Fresh
pub mod Layouts
pub mod Made
pub mod Parts
pub mod Plans
pub mod Refusals
