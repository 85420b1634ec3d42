-- What a lowering and a raise are, by the table of modes.
use Rattle.std.proofs.Common.{◌≡◌, true, false, Option, Some, refl, arith}
use Rattle.plain_cat.specs.declared.mode.Mode.{Mode}
use Rattle.plain_cat.specs.declared.mode.Mode.TheVariants.{CW, PR}
use Rattle.lock_db.specs.Queues.{is_upward, goes_beside}
use Rattle.dlm_core.specs.Modes.{is_across, is_lowering, lowers, crosses}
use Rattle.dlm_core.specs.Lanes.{raises}

pub lowering-not_up : (old new : Mode) → is_lowering old new ≡ true → is_upward old new ≡ false
lowering-not_up old new e = grind arith

pub lowering-not_across : (old new : Mode) → is_lowering old new ≡ true → is_across old new ≡ false
lowering-not_across old new e = grind arith

pub across-not : (old new : Mode) → is_across old new ≡ false → old ≡ PR → new ≡ CW → ⊥
across-not old new e p q = grind arith

-- a lowered mode goes wherever the old one goes
pub lowering-goes : (old new : Mode) (h : Option Mode) → is_lowering old new ≡ true → goes_beside old h ≡ true → goes_beside new h ≡ true
lowering-goes old new h l e = grind arith

-- what is believed goes wherever what is waited for goes
pub raise-goes : (old new : Mode) (h : Option Mode) → raises (Some old) new ≡ true → goes_beside new h ≡ true → goes_beside old h ≡ true
raise-goes old new h l e = grind arith

pub raises-not_across : (belief : Option Mode) (w : Mode) → raises belief w ≡ true → crosses belief w ≡ false
raises-not_across belief w e = grind arith

pub raises-not_lower : (belief : Option Mode) (w : Mode) → raises belief w ≡ true → lowers belief w ≡ false
raises-not_lower belief w e = grind arith

pub raises-both : (belief : Option Mode) (w : Mode) → crosses belief w ≡ false → lowers belief w ≡ false → raises belief w ≡ true
raises-both belief w e f = rw (e, f) refl
