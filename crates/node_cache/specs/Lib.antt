pub mod Cached
pub mod Views
pub mod Lending
pub mod Laws
