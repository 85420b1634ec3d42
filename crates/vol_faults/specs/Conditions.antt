-- What is known of a volume once the findings of the first kinds were looked for and none was there.
use Rattle.std.specs.Prelude.{◌≡◌, ◌≤◌, ◌==◌, ◌&&◌, not, ℕ, Bool, true, false, is_some, Result, Ok, Err}
use Rattle.std.specs.List.{list_any}
use Rattle.fx_header.specs.declared.slot.Slot.{Slot}
use Rattle.fx_header.specs.declared.slot.Slot.TheVariants.{Free, Used}
use Rattle.fx_header.specs.declared.slot.HeaderFault.{HeaderFault}
use Rattle.vol_parts.specs.Volumes.{Volume, IsNumber, head, used_slot, runs, is_used_number}
use Rattle.vol_parts.specs.Fatal.{chain_fault, is_off_bounds}

-- the blocks that a volume can have
pub record IsSize (blocks : ℕ) : Type 0 where
  pub from : 64 ≤ blocks
  pub to : blocks ≤ 65536

-- the slot of a number has a fault, or is that of another number
abbrev pub is_bad_slot : ℕ → Result Slot HeaderFault → Bool
is_bad_slot n (Ok (Used f)) = not (f.num == n)
is_bad_slot n (Ok (Free seq)) = false
is_bad_slot n (Err fault) = true

unfoldable pub is_bad_header : Volume → ℕ → Bool
is_bad_header v n = is_bad_slot n (head v n)

-- each slot can be read, and is that of its own number where it is in use
pub record HasHeads (v : Volume) : Type 0 where
  pub sound : (n : ℕ) → IsNumber v n → is_bad_header v n ≡ false

-- the chain of headers of the file of a number is broken or badly split
abbrev pub has_bad_chain : Volume → ℕ → Bool
has_bad_chain v n = is_some (chain_fault v n)

-- a run of the file of a number is off
unfoldable pub has_run_off : Volume → ℕ → Bool
has_run_off v n = list_any (is_off_bounds v) (runs v n)

-- the index-file bitmap calls a number free, and its slot is used
unfoldable pub is_free_in_use : Volume → ℕ → Bool
is_free_in_use v n = not (is_used_number v n) && is_some (used_slot v n)
