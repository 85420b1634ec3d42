-- A file that is taken out, changed and put back.
use Rattle.std.proofs.Common.{◌≡◌, ◌∙◌, ◌-◌, ◌==◌, ℕ, List, Option, Some, None, sym, ap, inl, inr, set-set}
use Rattle.std.specs.Prelude.{slice_set}
use Rattle.std.proofs.lemmas.Bool.{cases_eq}
use Rattle.std.proofs.lemmas.List.{set_comm}
use Rattle.plain_cat.specs.declared.ids.Fid.{Fid}
use Rattle.plain_cat.specs.declared.entries.DirEnt.{DirEnt}
use Rattle.plain_cat.specs.declared.cat.Cat.{Cat}
use Rattle.plain_cat.specs.declared.cat.File.{File}
use Rattle.plain_cat.specs.declared.cat.Slot.{Slot}
use Rattle.plain_cat.specs.declared.cat.Slot.TheVariants.{Used, Free}
use Rattle.plain_rules.specs.Lookups.{file_at, of_seq, in_use, unmarked, live}
use Rattle.plain_rules.specs.Directories.{inserted}
use Rattle.plain_rules.specs.Changes.{with_slot, with_file}
use Rattle.plain_rules.proofs.Standing.{some_if, some_unless}
use Rattle.plain_vol.specs.Makings.{changed, changed_of, placed}

-- the slot that was put last stands
pub with_slot_again : (c : Cat) (n : ℕ) (a b : Slot) → with_slot (with_slot c n a) n b ≡ with_slot c n b
with_slot_again c n a b = ap (λ (fs : List Slot). record c { files = fs }) (set-set c.files (n - 1) a b)

-- a file that is taken out, changed and put back is changed where it stands
pub put_back : (c taken : Cat) (n : ℕ) (found : Option File) (f new : File) (change : File → File) → found ≡ file_at c n → found ≡ Some f
    → taken ≡ with_slot c n (Free 0) → new ≡ change f → with_file taken n new ≡ changed c n change
put_back c taken n found f new change at is left so =
    (λ i. with_file (left i) n (so i))
    ∙ with_slot_again c n (Free 0) (Used (change f))
    ∙ ap (changed_of c n change) (sym is ∙ at)

-- where there is no file nothing changes
pub no_change : (c left : Cat) (n : ℕ) (found : Option File) (change : File → File) → found ≡ file_at c n → found ≡ None → left ≡ c → left ≡ changed c n change
no_change c left n found change at none same = same ∙ ap (changed_of c n change) (sym none ∙ at)

same_seq : (seq : ℕ) (o : Option File) (f : File) → of_seq seq o ≡ Some f → o ≡ Some f
same_seq seq None f h = h
same_seq seq (Some g) f h = ap (λ (f : File). Some f) (some_if (g.seq == seq) g f h)

not_marked : (o : Option File) (f : File) → unmarked o ≡ Some f → o ≡ Some f
not_marked None f h = h
not_marked (Some g) f h = some_unless g.marked (Some g) f h

-- a file in use stands under its number
pub in_use_at : (c : Cat) (fid : Fid) (f : File) → in_use c fid ≡ Some f → file_at c fid.num ≡ Some f
in_use_at c fid f h = same_seq fid.seq (file_at c fid.num) f h

-- and so does a live one
pub live_at : (c : Cat) (fid : Fid) (f : File) → live c fid ≡ Some f → file_at c fid.num ≡ Some f
live_at c fid f h = in_use_at c fid f (not_marked (in_use c fid) f h)

set_between : (xs : List Slot) (i j : ℕ) (a b c : Slot) → slice_set (slice_set (slice_set xs i a) j b) i c ≡ slice_set (slice_set xs j b) i c
set_between xs i j a b c = elim (cases_eq i j) [
  | inl e ↦
      ap (λ (k : ℕ). slice_set (slice_set (slice_set xs i a) k b) i c) (sym e)
      ∙ set-set (slice_set xs i a) i b c ∙ set-set xs i a c ∙ sym (set-set xs i b c)
      ∙ ap (λ (k : ℕ). slice_set (slice_set xs k b) i c) e
  | inr ne ↦ ap (λ (l : List Slot). slice_set l i c) (set_comm xs i j a b ne) ∙ set-set (slice_set xs j b) i a c
]

-- a directory that is taken out and put back with one entry more, behind the new file
pub placed_back : (c taken : Cat) (n : ℕ) (found : Option File) (d new : File) (e : DirEnt) (f : File) → found ≡ file_at c n → found ≡ Some d
    → taken ≡ with_slot c n (Free 0) → new ≡ record d { entries = inserted e d.entries }
    → with_file (with_file taken e.fid.num f) n new ≡ placed c n e f (file_at c n)
placed_back c taken n found d new e f at is left so =
    (λ i. with_file (with_file (left i) e.fid.num f) n (so i))
    ∙ ap (λ (fs : List Slot). record c { files = fs }) (set_between c.files (n - 1) (e.fid.num - 1) (Free 0) (Used f) (Used (record d { entries = inserted e d.entries })))
    ∙ ap (placed c n e f) (sym is ∙ at)
