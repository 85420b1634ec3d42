use Rattle.std.proofs.Common.{◌≡◌, ◌==◌, ◌&&◌, ◌-◌, ℕ, Bool, true, false, cond, Option, Some, None, slice_get, refl, ap}
use Rattle.std.specs.Prelude.{option_map}
use Rattle.plain_cat.specs.declared.ids.Fid.{Fid}
use Rattle.plain_cat.specs.declared.cat.Cat.{Cat}
use Rattle.plain_cat.specs.declared.cat.File.{File}
use Rattle.plain_cat.specs.declared.cat.Slot.{Slot}
use Rattle.plain_cat.specs.declared.cat.Slot.TheVariants.{Used, Free}
use Rattle.plain_rules.specs.Lookups.{slot_at, file_in, file_at, of_seq, in_use, unmarked, live, is_free_slot, is_free_number, last_seq}

-- what a choice between a value and nothing gives
pub some_if : {X : Type 0} (b : Bool) (x y : X) → cond b (Some x) None ≡ Some y → x ≡ y
some_if true x y h = cc
some_if false x y h = absurd (cc h)

pub some_map : {X Y : Type 0} (o : Option X) (f : X → Y) (y : Y) → option_map f o ≡ Some y → (x : X) × (o ≡ Some x) × (f x ≡ y)
some_map None f y h = absurd (cc h)
some_map (Some x) f y h = (x, refl, cc h)

pub some_unless : {X : Type 0} (b : Bool) (o : Option X) (y : X) → cond b None o ≡ Some y → o ≡ Some y
some_unless true o y h = absurd (cc h)
some_unless false o y h = h

in_slot : (o : Option Slot) (f : File) → file_in o ≡ Some f → o ≡ Some (Used f)
in_slot None f h = absurd (cc h)
in_slot (Some (Free q)) f h = absurd (cc h)
in_slot (Some (Used g)) f h = let e : g ≡ f = cc in ap (λ (x : File). Some (Used x)) e

-- the slot of a file that stands under a number
pub stands_at : (c : Cat) (n : ℕ) (f : File) → file_at c n ≡ Some f → slice_get c.files (n - 1) ≡ Some (Used f)
stands_at c n f h = some_unless (n == 0) (slice_get c.files (n - 1)) (Used f) (in_slot (slot_at c n) f h)

same_seq : (seq : ℕ) (o : Option File) (f : File) → of_seq seq o ≡ Some f → o ≡ Some f
same_seq seq None f h = h
same_seq seq (Some g) f h = ap Some (some_if (g.seq == seq) g f h)

pub stands_in_use : (c : Cat) (fid : Fid) (f : File) → in_use c fid ≡ Some f → slice_get c.files (fid.num - 1) ≡ Some (Used f)
stands_in_use c fid f h = stands_at c fid.num f (same_seq fid.seq (file_at c fid.num) f h)

not_marked : (o : Option File) (f : File) → unmarked o ≡ Some f → o ≡ Some f
not_marked None f h = h
not_marked (Some g) f h = some_unless g.marked (Some g) f h

pub stands_live : (c : Cat) (fid : Fid) (f : File) → live c fid ≡ Some f → slice_get c.files (fid.num - 1) ≡ Some (Used f)
stands_live c fid f h = stands_in_use c fid f (not_marked (in_use c fid) f h)

free_slot : (o : Option Slot) → is_free_slot o ≡ true → o ≡ Some (Free (last_seq o))
free_slot None h = absurd (cc h)
free_slot (Some (Free q)) h = refl
free_slot (Some (Used f)) h = absurd (cc h)

pub first_true : (a b : Bool) → a && b ≡ true → a ≡ true
first_true true b h = refl
first_true false b h = h

-- the slot of a free number
pub stands_free : (c : Cat) (n : ℕ) → is_free_number c n ≡ true → slice_get c.files (n - 1) ≡ Some (Free (last_seq (slot_at c n)))
stands_free c n h =
    some_unless (n == 0) (slice_get c.files (n - 1)) (Free (last_seq (slot_at c n))) (free_slot (slot_at c n) (first_true (is_free_slot (slot_at c n)) _ h))
