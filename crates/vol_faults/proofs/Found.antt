-- The lost file without room is the only finding of its kind.
use Rattle.std.proofs.Common.{◌≡◌, ◌≤◌, ℕ, Option, Some, None, refl, subst, arith}
use Rattle.plain_cat.specs.declared.cat.Cat.{Cat}
use Rattle.vol_parts.specs.declared.finding.Finding.{Finding}
use Rattle.vol_parts.specs.declared.finding.Finding.TheVariants as finding
use Rattle.vol_parts.specs.Fatal.{HasNoRoom}
use Rattle.vol_parts.specs.Findings.{rank, subject}
use Rattle.vol_faults.specs.CatFindings.{IsFatalOf, IsFirstIn}
use Rattle.vol_faults.proofs.RoomLemmas.{no-room-once}
use Rattle.vol_faults.specs.Waiting.{IsRoomless}

no_other : (c : Cat) (n : ℕ) → HasNoRoom c n → (g : Finding) → rank g ≡ 16 → IsFatalOf c g → n ≤ subject g
no_other c n h (finding.NoRoom m) e k = omega (arith, no-room-once c n m h k)
no_other c n h g e k = absurd (omega arith)

none_is : (c : Cat) → IsRoomless c None → (g : Finding) → rank g ≡ 16 → IsFatalOf c g → ⊥
none_is c none (finding.NoRoom m) e k = none m k
none_is c none g e k = omega arith

pub found_none : (c : Cat) (r : Option ℕ) → IsRoomless c r → r ≡ None → IsFirstIn c 16 None
found_none c None h is = none_is c h
found_none c (Some n) h is = absurd (cc)

pub found_some : (c : Cat) (r : Option ℕ) (n : ℕ) → IsRoomless c r → r ≡ Some n → IsFirstIn c 16 (Some (finding.NoRoom n))
found_some c None n h is = absurd (cc)
found_some c (Some m) n h is = let e : HasNoRoom c n = subst (HasNoRoom c) (cc is) h in record { rank_is = refl; fatal = e; least = no_other c n e }
