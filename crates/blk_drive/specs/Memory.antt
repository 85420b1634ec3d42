-- Images in memory, which fail at chosen calls.
use Rattle.std.specs.Prelude.{◌==◌, ℕ, List, Option, true, is_some, slice_set, if◌then◌else◌}
use Rattle.std.specs.List.{find}
use Rattle.std.specs.Option.{option_map_or}
use Rattle.base_words.specs.Fields.{Block}
use Rattle.blk_drive.specs.declared.memory.Fail.{Fail}
use Rattle.base_words.specs.Faults.{next}

-- the blocks, the calls that fail, how many calls there were, how many of them failed, and how many of these were writes
pub record Memory : Type 0 where
  pub blocks : List Block
  pub failing : List Fail
  pub calls : ℕ
  pub faults : ℕ
  pub lost : ℕ

-- how the call of this number fails, if it does
abbrev pub failure_at : List Fail → ℕ → Option Fail
failure_at failing call = find (λ f. f.call == call) failing

-- how the next call fails, if it does
abbrev pub failure : Memory → Option Fail
failure m = failure_at m.failing (next m.calls)

-- the image after a call that changes no block
abbrev pub called : Memory → Memory
called m = record m { calls = next m.calls; faults = if is_some (failure m) then next m.faults else m.faults }

-- the image after a write: it has the block, but where the write failed and did not land. One that failed is lost
abbrev pub written : Memory → ℕ → Block → Memory
written m lbn b =
    record (called m) {
      blocks = if option_map_or (λ f. f.lands) (failure m) true then slice_set m.blocks lbn b else m.blocks;
      lost = if is_some (failure m) then next m.lost else m.lost;
    }
