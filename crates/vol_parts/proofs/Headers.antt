-- What a header slot in use tells of the block that it stands in.
use Rattle.std.proofs.Common.{◌≡◌, ◌<◌, ℕ, length, Bool, true, false, Some, Result, Ok, Err, refl, ap}
use Rattle.std.specs.Prelude.{is_some, if◌then◌else◌}
use Rattle.std.proofs.lemmas.Bool.{ltb-true}
use Rattle.fx_header.specs.declared.slot.Slot.{Slot}
use Rattle.fx_header.specs.declared.slot.Slot.TheVariants.{Free, Used}
use Rattle.fx_header.specs.declared.slot.Hdr.{Hdr}
use Rattle.fx_header.specs.declared.slot.HeaderFault.{HeaderFault}
use Rattle.fx_header.specs.declared.slot.HeaderFault.TheVariants.{BadSum}
use Rattle.fx_header.proofs.SoundLemmas.{Sound, reads-sound}
use Rattle.vol_parts.specs.Volumes.{Volume, header_lbn, header_at, head, fields_in, used_slot}
use Rattle.vol_parts.specs.Conditions.{IsUsedSlot}

past : (t : Bool) (others : Result Slot HeaderFault) (f : Hdr) → (if t then others else Err BadSum) ≡ Ok (Used f) → (t ≡ true) × (others ≡ Ok (Used f))
past true others f e = (refl, e)
past false others f e = absurd (cc)

-- a slot in use stands inside the blocks, and its header has no fault
pub record Stands (v : Volume) (n : ℕ) (f : Hdr) : Type 0 where
  pub inside : header_lbn v n < length v.blocks
  pub sound : Sound (header_at v n) f

pub head-stands : (v : Volume) (n : ℕ) (f : Hdr) → head v n ≡ Ok (Used f) → Stands v n f
unfolding head
head-stands v n f e =
    let p = past _ _ f e in
    record { inside = ltb-true _ _ p.0; sound = reads-sound _ f p.1 }

-- a slot that is used
pub record StandsUsed (v : Volume) (n : ℕ) : Type 0 where
  pub header : Hdr
  pub says : used_slot v n ≡ Some header
  pub stands : Stands v n header

pub used-stands : (v : Volume) (n : ℕ) → IsUsedSlot v n → StandsUsed v n
used-stands v n is = by_head (head v n) refl is.used where
  by_head : (r : Result Slot HeaderFault) → head v n ≡ r → is_some (fields_in r) ≡ true → StandsUsed v n
  by_head (Ok (Used f)) e used = record { header = f; says = ap fields_in e; stands = head-stands v n f e }
  by_head (Ok (Free seq)) e used = absurd (cc)
  by_head (Err fault) e used = absurd (cc)
