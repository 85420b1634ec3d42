-- What the iterators over runs have left to yield.
use Rattle.std.specs.Prelude.{◌≡◌, ◌-◌, ◌++◌, ◌⊎◌, nat_le, ℕ, List, [], Option, Some, None, flat_map, if◌then◌else◌}
use Rattle.fx_header.specs.declared.run.Run.{Run}
use Rattle.fx_header.specs.declared.slot.Hdr.{Hdr}
use Rattle.fx_header.specs.declared.pointers.RunIter.{RunIter}
use Rattle.fx_header.specs.Iter.{runs_left}
use Rattle.fx_header.specs.Pointers.{blocks_in}
use Rattle.vol_parts.specs.Chains.{Headers, next_header, slots_behind, slots_from, cut}
use Rattle.vol_parts.specs.Volumes.{volume, headers_of}
use Rattle.vol_parts.specs.declared.one_slot.SlotRuns.{SlotRuns}
use Rattle.vol_parts.specs.declared.walk.FileRuns.{FileRuns}

-- the runs of a map that are left, if it was begun
abbrev pub left_in : Option RunIter → List Run
left_in None = []
left_in (Some it) = runs_left it

-- the runs of one header that are left to yield
abbrev pub slot_runs_left : SlotRuns → List Run
slot_runs_left it = left_in it.header

-- the slots behind a header along the links, if `left` blocks do not lie in the `held` blocks of it that are ahead; k at most
abbrev pub slots_ahead : Headers → ℕ → Option Hdr → ℕ → ℕ → List ℕ
slots_ahead h k None held left = []
slots_ahead h k (Some f) held left =
    if nat_le left held then [] else slots_behind (next_header h f) (λ x. slots_from h k f.ext x (left - held))

-- the first `left` blocks of the runs of a header that are ahead, and of those that the k headers behind it list
unfoldable pub runs_ahead : Headers → ℕ → Option Hdr → List Run → ℕ → List Run
runs_ahead h k o rs left = cut left (rs ++ flat_map h.lists (slots_ahead h k o (blocks_in rs) left))

-- the runs of a file that are left to yield
abbrev pub file_runs_left : FileRuns → List Run
file_runs_left it = runs_ahead (headers_of (volume it.home.now it.blocks.now)) it.more it.header (slot_runs_left it.runs) it.left

-- nothing is ahead in the header that is read
abbrev pub IsThrough : FileRuns → Type 0
IsThrough it = (it.left ≡ 0) ⊎ (slot_runs_left it.runs ≡ [])
