-- Definitions of the files of a volume as they are shown.
pub mod Showing
pub mod Listing
pub mod Specifying
pub mod Reading
pub mod Fronts
