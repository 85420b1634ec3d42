use Rattle.std.proofs.Common.{◌≡◌, ◌≤◌, ◌-◌, ◌++◌, ℕ, List, map}
use Rattle.std.specs.List.{range_with_len}
use Rattle.base_words.specs.Tables.{zeros}
use Rattle.plain_cat.specs.declared.history.Stage.TheVariants as stage
use Rattle.op_law.specs.declared.need.PlanWrite.{PlanWrite}
use Rattle.op_law.specs.SeenFiles.{file_write}
use Rattle.op_steps.specs.Seeing.{file_seen}
use Rattle.op_data.proofs.writing.push_zeros.Given as goal

-- these writes are added to the old ones, and they are not more than there will be
pub record AreAdded (old added new : List PlanWrite) (count all : ℕ) : Type 0 where
  pub same : new ≡ old ++ added
  pub within : count ≤ all

abbrev pub invariant-loop-v : goal.invariant-loop-v
invariant-loop-v l =
    AreAdded l.fn.writes (map (λ v. file_write (file_seen l.g l.f) v zeros stage.Nothing) (range_with_len l.f.fields.mark (l.v - l.f.fields.mark))) l.writes (l.v - l.f.fields.mark) (l.vbn - l.f.fields.mark)
