-- Where the slot of a number stands.
use Rattle.std.proofs.Common.{◌≡◌, ◌*◌, ◌<◌, ◌≤◌, ℕ, Bool, true, false, Some, Result, Ok, Err, length, refl, arith}
use Rattle.std.specs.Prelude.{if◌then◌else◌}
use Rattle.std.proofs.lemmas.Bool.{ltb-true}
use Rattle.fx_header.specs.declared.slot.Slot.{Slot}
use Rattle.fx_header.specs.declared.slot.Slot.TheVariants.{Free, Used}
use Rattle.fx_header.specs.declared.slot.Hdr.{Hdr}
use Rattle.fx_header.specs.declared.slot.HeaderFault.{HeaderFault}
use Rattle.fx_header.specs.declared.slot.HeaderFault.TheVariants.{BadSum}
use Rattle.fx_header.specs.Headers.{header_read}
use Rattle.vol_faults.specs.Conditions.{is_bad_slot, is_bad_header, HasHeads}
use Rattle.vol_parts.specs.Volumes.{Volume, factor, header_lbn, header_at, head, fields_in}

inside-if : (t : Bool) (r : Result Slot HeaderFault) (s : Slot) → (if t then r else Err BadSum) ≡ Ok s → (t ≡ true) × (r ≡ Ok s)
inside-if true r s e = (refl, e)
inside-if false r s e = absurd (cc)

-- a slot that is read lies inside the blocks
pub head-inside : (v : Volume) (n : ℕ) (s : Slot) → head v n ≡ Ok s → (header_lbn v n < length v.blocks) × (header_read (header_at v n) ≡ Ok s)
unfolding head
head-inside v n s e =
    let h = inside-if _ _ s e in
    (ltb-true _ _ h.0, h.1)

pub used-fields : (r : Result Slot HeaderFault) (f : Hdr) → fields_in r ≡ Some f → r ≡ Ok (Used f)
used-fields (Ok (Used g)) f e = cc
used-fields (Ok (Free seq)) f e = absurd (cc)
used-fields (Err fault) f e = absurd (cc)

read-slot : (n : ℕ) (r : Result Slot HeaderFault) → is_bad_slot n r ≡ false → (s : Slot) × (r ≡ Ok s)
read-slot n (Ok s) e = (s, refl)
read-slot n (Err fault) e = absurd (cc)

-- the index-file bitmap lies inside the blocks where all headers can be read
pub index-inside : (v : Volume) → 1 ≤ v.home.files → HasHeads v → 4 * factor v < length v.blocks
unfolding is_bad_header
index-inside v some have =
    let one = read-slot 1 (head v 1) (have.sound 1 (record { from = omega arith; to = some })) in
    let at = head-inside v 1 one.0 one.1 in
    omega (arith, at.0)
