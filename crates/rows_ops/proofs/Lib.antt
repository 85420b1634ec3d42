pub mod Meeting
mod OnChannel
mod Forms
