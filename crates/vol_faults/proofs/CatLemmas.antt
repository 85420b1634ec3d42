-- The numbers of a catalogue's files.
use Rattle.std.proofs.Common.{◌≡◌, ◌<◌, ◌≤◌, ◌≢◌, ℕ, Bool, true, false, Option, Some, None, length, refl, arith}
use Rattle.std.proofs.lemmas.Bool.{eqb-false}
use Rattle.std.proofs.lemmas.Option.{slice_get_within}
use Rattle.std.specs.Prelude.{◌==◌, ◌-◌, slice_get, if◌then◌else◌}
use Rattle.plain_cat.specs.declared.cat.Cat.{Cat}
use Rattle.plain_cat.specs.declared.cat.File.{File}
use Rattle.plain_cat.specs.declared.cat.Slot.{Slot}
use Rattle.plain_rules.specs.Lookups.{file_at, file_in, slot_at}
use Rattle.vol_parts.specs.Fatal.{is_marked_dir}

file-slot : (o : Option Slot) (f : File) → file_in o ≡ Some f → (s : Slot) × (o ≡ Some s)
file-slot None f e = absurd (cc)
file-slot (Some s) f e = (s, refl)

slot-number : (c : Cat) (n : ℕ) (t : Bool) (s : Slot) → (n == 0) ≡ t → (if t then None else slice_get c.files (n - 1)) ≡ Some s → (1 ≤ n) × (n ≤ length c.files)
slot-number c n true s z e = absurd (cc)
slot-number c n false s z e =
    let inside : n - 1 < length c.files = slice_get_within c.files (n - 1) s e in
    let some : n ≢ 0 = eqb-false n 0 z in
    (omega arith, omega arith)

-- a file has one of the numbers
pub file-number : (c : Cat) (n : ℕ) (f : File) → file_at c n ≡ Some f → (1 ≤ n) × (n ≤ length c.files)
file-number c n f e =
    let w = file-slot (slot_at c n) f e in
    slot-number c n (n == 0) w.0 refl w.1

marked-file : (o : Option File) → is_marked_dir o ≡ true → (f : File) × (o ≡ Some f)
marked-file None e = absurd (cc)
marked-file (Some f) e = (f, refl)

pub marked-number : (c : Cat) (n : ℕ) → is_marked_dir (file_at c n) ≡ true → (1 ≤ n) × (n ≤ length c.files)
marked-number c n e = let w = marked-file (file_at c n) e in file-number c n w.0 w.1
