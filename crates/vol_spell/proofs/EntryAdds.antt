-- The moves that enter an entry into a directory.
use Rattle.std.proofs.Common.{◌≡◌, ◌∙◌, ◌<◌, ◌-◌, ◌++◌, false, List, [], ◌∷◌, Some, Ok, length, map, take_all, ℕ, refl, sym, ap, arith, length-append}
use Rattle.std.proofs.lemmas.Option.{slice_get-get_or}
use Rattle.base_words.specs.Fields.{Block}
use Rattle.base_words.specs.Packing.{pack, over}
use Rattle.fx_dir.specs.declared.RawEnt.{RawEnt}
use Rattle.fx_dir.specs.declared.Move.{Move}
use Rattle.fx_dir.specs.Entries.{has, plain}
use Rattle.fx_dir.specs.Directory.{plainly, dir_entries}
use Rattle.fx_dir.specs.Writing.{IsInForm, IsRanged, name_of, if_fits}
use Rattle.fx_dir.specs.Moves.{written as moved, inserted, as_new, insert_writes, insertion, insertion_on, on_entries, Inserts}
use Rattle.fx_dir.proofs.Meeting.{Sound}
use Rattle.fx_dir.proofs.Based.{long-from}
use Rattle.fx_dir.proofs.Seeing.{inserted-each, plain-as_new, as_new-form, as_new-ranged}
use Rattle.fx_dir.proofs.Inserting.{inserts}
use Rattle.vol_parts.proofs.WholeRanges.{read-sound}
use Rattle.vol_parts.proofs.Moving.{whole_insertion}
use Rattle.plain_cat.specs.declared.entries.DirEnt.{DirEnt}
use Rattle.plain_cat.specs.declared.cat.Cat.{Cat}
use Rattle.plain_cat.specs.declared.cat.File.{File}
use Rattle.plain_rules.specs.Lookups.{versions}
use Rattle.plain_rules.specs.Directories.{inserted as listed, is_taken, fits}
use Rattle.vol_spell.specs.Owners.{Owners}
use Rattle.vol_parts.specs.declared.geometry.Geometry.{Geometry}
use Rattle.vol_parts.specs.Catalogues.{plain_entry}
use Rattle.vol_spell.specs.Spelling.{Spells}
use Rattle.vol_spell.specs.Entries.{blocks_of, raw_entry, AreMovesTo, CanBeEntered, EntryEnters}
use Rattle.vol_spell.proofs.EntryLists.{inserted_plain, map_plain, not_there, none_over}
use Rattle.vol_spell.proofs.EntryDirs.{IsDirAt, dir_at, dir_lists}

-- a list with an item at its end has one more than those in front of it
one_behind : {A : Type 0} (xs : List A) (y : A) → length (xs ++ y ∷ []) - 1 < length (xs ++ y ∷ [])
one_behind xs y = let n = length-append xs (y ∷ []) in omega arith

module _ (g : Geometry) (bs : List Block) (own : Owners) (x : Cat) (n : ℕ) (d : File) (e : DirEnt) (s : Spells g bs own x) (can : CanBeEntered g x n d e) where
  abbrev at : IsDirAt g bs n d
  at = dir_at g bs own x s n can.number d can.file can.dir

  abbrev old : List Block
  old = blocks_of g bs n

  abbrev fs : List RawEnt
  fs = at.entries

  abbrev r : RawEnt
  r = raw_entry e

  abbrev new : RawEnt
  new = as_new fs r

  -- the moves of the insertion
  abbrev ms : List Move
  ms = insert_writes old (pack name_of (length old) fs) new (pack name_of (length old) (inserted new fs))

  lists : d.entries ≡ map plain_entry fs
  lists = dir_lists g bs n d at

  form : IsInForm r
  form = record { named = can.name; from_one = can.ver_from; to_last = can.ver_to; numbered = can.num }

  fitted : over name_of (length old) (inserted new fs) ≡ []
  fitted =
      let same : plain_entry new ≡ e = ap plain_entry (plain-as_new fs r) in
      let all : map plain_entry (inserted new fs) ≡ listed e d.entries = inserted_plain new fs ∙ (let back = sym lists in λ i. listed (same i) (back i)) in
      none_over (length old) (inserted new fs) ((λ i. fits (at.count i) (all i)) ∙ can.room)

  absent : has fs r ≡ false
  absent = not_there r fs (ap (λ es. is_taken e.ver (versions e.name es)) (sym lists) ∙ can.new)

  there : insertion old r ≡ Some ms
  there = ap (insertion_on old r) at.read ∙ ap (λ left. if_fits left ms) fitted

  sound : Sound fs
  sound = read-sound old fs at.whole at.read

  all_sound : Sound (inserted new fs)
  all_sound = record {
    form = inserted-each IsInForm new fs (as_new-form fs r form) sound.form;
    ranged = inserted-each IsRanged new fs (as_new-ranged fs r can.seq sound.ranged) sound.ranged;
  }

  law : Inserts old r ms
  law = inserts old fs r ms (long-from old (λ i lt. (at.whole i _ (slice_get-get_or old i [] lt)).long)) at.read absent fitted sound all_sound refl

  were : dir_entries old ≡ Ok (map plain fs)
  were = ap plainly at.read

  become : map plain_entry (inserted (plain r) (map plain fs)) ≡ listed e d.entries
  become = inserted_plain (plain r) (map plain fs) ∙ ap (listed e) (map_plain fs ∙ sym lists)

  are_moves : AreMovesTo old (map plain fs) (inserted (plain r) (map plain fs)) (length ms - 1) ms
  are_moves =
      let last : length ms - 1 < length ms = one_behind _ _ in
      record {
        whole = whole_insertion old r ms at.whole form there;
        changes = law.changes;
        decides = last;
        same = λ i le. law.before i (omega arith) ∙ were;
        other = λ i lt le. ap (λ ns. dir_entries (moved ns old)) (take_all i ms (omega arith)) ∙ law.after ∙ ap (on_entries (inserted (plain r))) were;
      }

pub entry_enters : EntryEnters
entry_enters g bs own x n d e s can = record {
  moves = ms g bs own x n d e s can;
  inserted_by = there g bs own x n d e s can;
  old = map plain (fs g bs own x n d e s can);
  new = inserted (plain (r g bs own x n d e s can)) (map plain (fs g bs own x n d e s can));
  lead = are_moves g bs own x n d e s can;
  entries = become g bs own x n d e s can;
}
