-- A script that is read, on an image: what is printed of it, and what the image has.
use Rattle.std.proofs.Common.{ℕ, List, refl, inl, inr}
use Rattle.base_words.specs.Fields.{Block}
use Rattle.blk_drive.specs.Images.{IsInside}
use Rattle.plain_cat.specs.declared.script.Script.{Script}
use Rattle.run_engine.specs.declared.status.Status.{Status}
use Rattle.run_engine.specs.declared.status.Status.TheVariants as status
use Rattle.run_engine.specs.declared.over_mending.Halt.{Halt}
use Rattle.run_engine.specs.declared.over_mending.Halt.TheVariants as halt
use Rattle.run_engine.specs.Scripts.{SpellsWithin, IsScriptEnd}
use Rattle.run_engine.proofs.Given.{good}
use Rattle.live_run.specs.declared.words.Job.{Job}
use Rattle.live_run.specs.Lives.{IsEnd, IsCut, IsLacking, IsUnmended}
use Rattle.live_run.specs.Statuses.{OfGiven, IsImageEnd, IsImageHalt, IsReported, IsRunEnd, IsRunHalt}
use Rattle.live_run.proofs.Imaged.{accepts}

-- why a text gave no script is why the call gave no report, and the image stays
pub script_end : (what : Job) (bytes : List ℕ) (size : ℕ) (bs : List Block) (read reading had has lost losing : ℕ) (s : Status) → IsScriptEnd bytes read reading s → IsRunEnd what bytes size bs bs read reading had has lost losing s
script_end what bytes size bs read reading had has lost losing status.ScriptFault h = (h, refl)
script_end what bytes size bs read reading had has lost losing status.ScriptTooLong h = (h, refl)
script_end what bytes size bs read reading had has lost losing (status.BadScript n) h = (h, refl)
script_end what bytes size bs read reading had has lost losing status.TooMany h = (h, refl)
script_end what bytes size bs read reading had has lost losing status.NoMemory h = inl refl
script_end what bytes size bs read reading had has lost losing s h = absurd h

module _ (what : Job) (bytes : List ℕ) (script : Script) (spelt : SpellsWithin script bytes) (size : ℕ) (old new : List Block) where
  -- what holds of the script holds of one that is given
  given_on : (P : Script → Type 0) → P script → OfGiven bytes P
  given_on P h = record { script = script; given = spelt.spelt; holds = h }

  pub reported : (text : List ℕ) → IsInside size → IsEnd what script old new text → IsReported what bytes size old new text
  reported text inside h = record {
    good = good bytes script spelt;
    accepted = record { inside = inside; accepted = accepts what script old new text h };
    report = given_on (λ s. IsEnd what s old new text) h;
  }

  run_end : (read reading had has lost losing : ℕ) (s : Status) → IsImageEnd what script size old new had has lost losing s → IsRunEnd what bytes size old new read reading had has lost losing s
  run_end read reading had has lost losing status.ImageFault end = (good bytes script spelt, end.0, end.1, end.2)
  run_end read reading had has lost losing (status.BadSize n) end = ((good bytes script spelt, end.0.0, end.0.1), end.1)
  run_end read reading had has lost losing (status.NotAccepted f) end = ((good bytes script spelt, end.0.0, end.0.1), end.1)
  run_end read reading had has lost losing status.NoMemory (inl e) = inl e
  run_end read reading had has lost losing status.NoMemory (inr d) = inr (given_on (λ s. IsLacking what s old new) d)
  run_end read reading had has lost losing s end = absurd end

  -- why the image gave no end is why the call gave no report
  pub run_halt : (read reading had has lost losing : ℕ) (x : Halt) → IsImageHalt what script size old new had has lost losing x → IsRunHalt what bytes size old new read reading had has lost losing x
  run_halt read reading had has lost losing (halt.Cut text) end = (good bytes script spelt, end.0, given_on (λ s. IsCut what s old new text.items) end.1)
  run_halt read reading had has lost losing halt.NoLines end = (good bytes script spelt, end.0, given_on (λ s. (text : List ℕ) × IsCut what s old new text) end.1)
  run_halt read reading had has lost losing (halt.Unmended text f) end = (good bytes script spelt, end.0, given_on (λ s. IsUnmended what s old new f text.items) end.1)
  run_halt read reading had has lost losing (halt.By s) end = run_end read reading had has lost losing s end
