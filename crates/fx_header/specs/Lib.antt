pub mod Headers
pub mod Iter
pub mod Pointers
