pub mod Stock
pub mod Takings
pub mod Laws
