pub mod Conditions
pub mod Having
pub mod Judging
pub mod Kinds
pub mod Texts
