pub mod Words
pub mod Rests
pub mod Lives
pub mod Ends
pub mod Statuses
pub mod Laws
pub mod Calls
