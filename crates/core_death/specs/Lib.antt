pub mod Lasts
pub mod Seats
