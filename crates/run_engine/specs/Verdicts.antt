-- Which statuses speak of what came in alone, and when those of a run are due.
use Rattle.std.specs.Prelude.{◌≡◌, ℕ, Bool, true, false, List}
use Rattle.base_words.specs.Fields.{Block}
use Rattle.blk_drive.specs.Images.{IsInside, IsOutside}
use Rattle.vol_analyze.specs.Judging.{IsFirstFound}
use Rattle.run_engine.specs.declared.status.Status.{Status}
use Rattle.run_engine.specs.declared.status.Status.TheVariants as status
use Rattle.run_engine.specs.Texts.{IsTooLong, IsBad, IsOverfull, IsGood, IsAccepted}

-- a status that speaks of what came in alone: no fault and no want of memory
abbrev pub is_verdict : Status → Bool
is_verdict status.ScriptFault = false
is_verdict status.ImageFault = false
is_verdict status.OutFault = false
is_verdict status.NoMemory = false
is_verdict s = true

-- Of a run that is mended then, also not the one that speaks of where the run has led: that the volume cannot be mended there.
abbrev pub is_mended_verdict : Status → Bool
is_mended_verdict (status.NotMendable f) = false
is_mended_verdict s = is_verdict s

-- ---- of a run

-- When a status of a run is due. The order is script read, grammar, image read, size, acceptance, output; of a fault its own condition is that its
-- count rose.
abbrev pub IsRunDue : List ℕ → ℕ → List Block → Status → Type 0
IsRunDue bytes size bs status.Ok = IsGood bytes × IsAccepted size bs
IsRunDue bytes size bs status.ScriptFault = Unit {0}
IsRunDue bytes size bs status.ScriptTooLong = IsTooLong bytes
IsRunDue bytes size bs (status.BadScript n) = IsBad n bytes
IsRunDue bytes size bs status.TooMany = IsOverfull bytes
IsRunDue bytes size bs status.ImageFault = IsGood bytes
IsRunDue bytes size bs (status.BadSize n) = IsGood bytes × (n ≡ size) × IsOutside size
IsRunDue bytes size bs (status.NotAccepted f) = IsGood bytes × IsInside size × IsFirstFound bs f
IsRunDue bytes size bs status.OutFault = IsGood bytes × IsAccepted size bs
IsRunDue bytes size bs status.NoMemory = Unit {0}
IsRunDue bytes size bs s = ⊥

-- of a script and blocks one status of a run that speaks of what came in is due, and no other one
pub record HasRunVerdict (bytes : List ℕ) (size : ℕ) (bs : List Block) : Type 0 where
  pub status : Status
  pub verdict : is_verdict status ≡ true
  pub due : IsRunDue bytes size bs status
  pub alone : (other : Status) → is_verdict other ≡ true → IsRunDue bytes size bs other → other ≡ status
