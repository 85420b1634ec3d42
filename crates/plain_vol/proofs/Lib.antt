pub mod Changing
pub mod Closing
pub mod Creating
pub mod Deleting
