pub mod RisingLists
pub mod Membership
mod Merging
