pub mod Faults
pub mod FieldLaws
pub mod Fields
pub mod ListLaws
pub mod Lists
pub mod Names
pub mod Packing
pub mod Tables
