pub mod Answering
pub mod Filling
pub mod Giving
pub mod Lasting
pub mod Laws
pub mod Rule
pub mod Searching
pub mod Taking
