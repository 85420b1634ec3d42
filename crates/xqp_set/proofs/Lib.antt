pub mod Every
pub mod Forms
