mod OpenLaw
mod Opens
mod CloseOutcomes
mod CloseWalks
mod ClosePlans
mod CloseBrief
mod Looking
pub mod Lawful
