pub mod Laws
pub mod Names
pub mod Queues
pub mod Resources
pub mod Tables
