-- The table of modes: it is the same both ways, and a lower mode goes wherever a higher one does, but for CW and PR.
use Rattle.std.proofs.Common.{◌≡◌, true, false, Option, arith}
use Rattle.plain_cat.specs.declared.mode.Mode.{Mode}
use Rattle.plain_cat.specs.declared.mode.Mode.TheVariants.{CW, PR}
use Rattle.plain_cat.specs.Modes.{compatible_modes}
use Rattle.lock_db.specs.Queues.{is_upward, goes_beside}

pub compatible_modes-comm : (a b : Mode) → compatible_modes a b ≡ compatible_modes b a
compatible_modes-comm a b = grind arith

pub goes_beside-lower : (old new : Mode) (h : Option Mode) → is_upward old new ≡ false → (old ≡ PR → new ≡ CW → ⊥) → goes_beside old h ≡ true → goes_beside new h ≡ true
goes_beside-lower old new h l n e = grind arith
