pub mod MergeLemmas
pub mod NewLemmas
pub mod PartLemmas
pub mod PointerLemmas
pub mod RunsLemmas
pub mod SetterLemmas
pub mod SoundLemmas
pub mod SpellLemmas
