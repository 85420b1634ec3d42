-- What is kept where nothing is beyond repair, and that the blocks at the call keep it.
use Rattle.std.proofs.Common.{◌≡◌, ◌∙◌, List, Option, None, length, refl, sym, ap, subst, inl}
use Rattle.std.specs.Prelude.{Result, Ok, Err}
use Rattle.base_words.specs.Fields.{Block}
use Rattle.fx_home.specs.declared.home.Home.{Home}
use Rattle.fx_home.specs.declared.home.HomeFault.{HomeFault}
use Rattle.fx_home.specs.Homes.{home_read, IsWithinLimits}
use Rattle.vol_faults.specs.Conditions.{IsSize}
use Rattle.vol_parts.specs.declared.finding.Finding.{Finding}
use Rattle.vol_parts.specs.declared.finding.Finding.TheVariants as finding
use Rattle.vol_parts.specs.Findings.{home_at}
use Rattle.vol_parts.specs.Volumes.{volume}
use Rattle.vol_spell.proofs.Accepted.{limits_of}
use Rattle.vol_sound.specs.Beyond.{IsBeyondIn, IsBeyondBy, IsFoundBeyond}
use Rattle.vol_sound.proofs.NoneBeyond.{has_system}
use Rattle.vol_repair.specs.Keeping.{NoneIsBeyond, KeepsSound, KeepsBy, Keeps}
use Rattle.vol_repair.specs.Laws.{IsMendable, TouchedKeeps}
use Rattle.vol_repair.specs.Touched.{IsTouched}

-- where nothing is beyond repair, the home block is read
pub no_home_fault : (bs : List Block) (fault : HomeFault) → NoneIsBeyond bs → home_read (home_at bs) ≡ Err fault → ⊥
no_home_fault bs fault none e = none (finding.Home fault) (subst (λ (r : Result Home HomeFault). IsBeyondBy bs r (finding.Home fault)) (sym e) refl)

pub mendable : (home : Home) (bs : List Block) → home_read (home_at bs) ≡ Ok home → IsSize (length bs) → NoneIsBeyond bs → IsMendable home bs
mendable home bs e size none = record { read = e; within = within; size = size; system = has_system (volume home bs) within none_in } where
  within : IsWithinLimits home
  within = limits_of (home_at bs) home e

  none_in : (f : Finding) → IsBeyondIn (volume home bs) f → ⊥
  none_in f h = none f (subst (λ (r : Result Home HomeFault). IsBeyondBy bs r f) (sym e) h)

-- what is read, and what is looked for, are the blocks of the drive
pub mendable_at : (home : Home) (bs all seen : List Block) (found : Option Finding) → all ≡ bs → seen ≡ bs → home_read (home_at all) ≡ Ok home → IsSize (length bs) → found ≡ None → IsFoundBeyond seen found → IsMendable home bs
mendable_at home bs all seen found same there e size none h =
    mendable home bs (ap (λ (x : List Block). home_read (home_at x)) (sym same) ∙ e) size
    (subst (λ (x : List Block). NoneIsBeyond x) there (subst (λ (o : Option Finding). IsFoundBeyond seen o) none h))

-- no more is touched than nothing
pub touched_none : (home : Home) (bs : List Block) → IsTouched home bs bs
touched_none home bs = record { freed = record { count = refl; slots = λ m is. inl refl }; others = λ l a b. refl }

pub keeps_by : (home : Home) (first now : List Block) → home_read (home_at first) ≡ Ok home → KeepsSound (volume home first) now → Keeps first now
keeps_by home first now e k none = subst (λ (r : Result Home HomeFault). KeepsBy r first now) (sym e) k

-- the blocks at the call keep what they have
pub keeps_first : TouchedKeeps → (first : List Block) → IsSize (length first) → Keeps first first
keeps_first law first size none = by_home (home_read (home_at first)) refl where
  by_home : (r : Result Home HomeFault) → home_read (home_at first) ≡ r → KeepsBy r first first
  by_home (Err fault) e = tt
  by_home (Ok home) e = law home first first (mendable home first e size none) (touched_none home first)
