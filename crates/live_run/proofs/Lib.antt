pub mod Rested
pub mod Lived
pub mod Imaged
pub mod Jobs
pub mod Lacking
pub mod Told
pub mod Answered
pub mod OneAnswer
