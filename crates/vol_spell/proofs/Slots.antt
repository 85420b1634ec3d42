-- Slots that are set twice, or to what they are.
use Rattle.std.proofs.Common.{◌≡◌, ◌≤◌, ◌-◌, ℕ, Bool, true, false, cond, List, Some, None, slice_get, slice_set, refl, ap, arith}
use Rattle.std.specs.Prelude.{◌==◌}
use Rattle.std.proofs.lemmas.Bool.Decides.{nat_tests}
use Rattle.std.proofs.lemmas.Option.{slice_get_within}
use Rattle.plain_cat.specs.declared.cat.Cat.{Cat}
use Rattle.plain_cat.specs.declared.cat.File.{File}
use Rattle.plain_cat.specs.declared.cat.Slot.{Slot}
use Rattle.plain_cat.specs.declared.cat.Slot.TheVariants as slot
use Rattle.plain_rules.specs.Lookups.{file_in, file_at}
use Rattle.plain_rules.specs.Changes.{with_slot}
use Rattle.plain_rules.proofs.Standing.{stands_at}
use Rattle.base_words.proofs.ListWrites.{get-set_here, set-get}
use Rattle.vol_spell.proofs.EntryMoves.{set_again}

-- a slot that is written twice has what was written last
pub slot_twice : (c : Cat) (n : ℕ) (a b : Slot) → with_slot (with_slot c n a) n b ≡ with_slot c n b
slot_twice c n a b = ap (λ (ss : List Slot). record c { files = ss }) (set_again c.files (n - 1) a b)

-- a file that is written where it stands already
pub slot_same : (c : Cat) (n : ℕ) (f : File) → file_at c n ≡ Some f → with_slot c n (slot.Used f) ≡ c
slot_same c n f at = ap (λ (ss : List Slot). record c { files = ss }) (set-get c.files (n - 1) (slot.Used f) (stands_at c n f at))

-- the file of a slot that was written
pub file_there : (c : Cat) (n : ℕ) (d f : File) → 1 ≤ n → file_at c n ≡ Some d → file_at (with_slot c n (slot.Used f)) n ≡ Some f
file_there c n d f from at = by_zero (n == 0) refl where
  by_zero : (t : Bool) → (n == 0) ≡ t → file_in (cond t None (slice_get (slice_set c.files (n - 1) (slot.Used f)) (n - 1))) ≡ Some f
  by_zero true e = absurd (let z : n ≡ 0 = grind (arith, nat_tests) in omega arith)
  by_zero false e = ap file_in (get-set_here c.files (n - 1) (slot.Used f) (slice_get_within c.files (n - 1) (slot.Used d) (stands_at c n d at)))
