-- The entries of a directory's blocks and those of the catalogue.
use Rattle.std.proofs.Common.{◌≡◌, ◌∙◌, ℕ, Bool, true, false, cond, List, [], ◌∷◌, ◌++◌, Some, None, Result, Ok, Err, Option, map, refl, sym, ap, arith, if◌then◌else◌}
use Rattle.std.specs.Prelude.{◌==◌, ◌&&◌, ◌||◌, is_some}
use Rattle.std.specs.Str.{bytes_eq}
use Rattle.std.proofs.lemmas.Bool.Decides.{nat_tests}
use Rattle.std.proofs.lemmas.Slice.Eq.{bytes_eq-Decides}
use Rattle.base_words.specs.Fields.{Block}
use Rattle.base_words.specs.Packing.{pack, over}
use Rattle.fx_dir.specs.declared.RawEnt.{RawEnt}
use Rattle.fx_dir.specs.declared.DirFault.{DirFault}
use Rattle.fx_dir.specs.declared.DirFault.TheVariants.{BadRecord, BadOrder, Clash, NoMemory}
use Rattle.fx_dir.specs.Entries.{lower, before, same, has, plain, rises, fresh, any_clash}
use Rattle.fx_dir.specs.Records.{block_entries}
use Rattle.fx_dir.specs.Directory.{one_more, and_then, next_vbn, read_on, directory, plainly}
use Rattle.fx_dir.specs.Moves.{inserted}
use Rattle.fx_dir.specs.Writing.{name_of, block_of, if_fits}
use Rattle.plain_cat.specs.declared.entries.DirEnt.{DirEnt}
use Rattle.plain_rules.specs.Lookups.{versions, first_with}
use Rattle.plain_rules.specs.Directories.{lower as named_lower, before as listed_before, inserted as listed, is_taken, fits}
use Rattle.vol_parts.specs.Catalogues.{plain_entry, plain_entries}
use Rattle.vol_parts.specs.Fatal.{found_in}
use Rattle.vol_spell.proofs.Packing.{packing_fits}

-- ---- the order of entries

lower_alike : (xs ys : List ℕ) → named_lower xs ys ≡ lower xs ys
lower_alike [] [] = refl
lower_alike [] (y ∷ ys) = refl
lower_alike (x ∷ xs) [] = refl
lower_alike (x ∷ xs) (y ∷ ys) = rw (lower_alike xs ys)

before_alike : (a b : RawEnt) → listed_before (plain_entry a) (plain_entry b) ≡ before a b
unfolding listed_before before
before_alike a b = rw (lower_alike a.name b.name)

-- an entry goes into the same place among both
pub inserted_plain : (e : RawEnt) (es : List RawEnt) → map plain_entry (inserted e es) ≡ listed (plain_entry e) (map plain_entry es)
inserted_plain e [] = refl
inserted_plain e (x ∷ es) = rw (before_alike e x) (step (before e x) (inserted_plain e es)) where
  step : (q : Bool) → map plain_entry (inserted e es) ≡ listed (plain_entry e) (map plain_entry es)
      → map plain_entry (if q then e ∷ x ∷ es else x ∷ inserted e es) ≡ (if q then plain_entry e ∷ plain_entry x ∷ map plain_entry es else plain_entry x ∷ listed (plain_entry e) (map plain_entry es))
  step true ih = refl
  step false ih = λ i. plain_entry x ∷ ih i

-- ---- an entry that is there or not

-- a version that is not taken is not there
pub not_there : (e : RawEnt) (es : List RawEnt) → is_taken e.ver (versions e.name (map plain_entry es)) ≡ false → has es e ≡ false
unfolding same
not_there e [] h = refl
not_there e (x ∷ es) h = by_name (bytes_eq x.name e.name) refl h (not_there e es) where
  vs : List DirEnt
  vs = versions e.name (map plain_entry es)

  by_version : (q : Bool) → x.ver == e.ver ≡ q → is_some (if q then Some (plain_entry x) else first_with e.ver vs) ≡ false → (is_taken e.ver vs ≡ false → has es e ≡ false) → (bytes_eq e.name x.name && (e.ver == x.ver)) || has es e ≡ false
  by_version true v h ih = absurd (cc)
  by_version false v h ih = let n : has es e ≡ false = ih h in grind (arith, nat_tests)

  by_name : (q : Bool) → bytes_eq x.name e.name ≡ q → is_taken e.ver (cond q (plain_entry x ∷ vs) vs) ≡ false → (is_taken e.ver vs ≡ false → has es e ≡ false) → (bytes_eq e.name x.name && (e.ver == x.ver)) || has es e ≡ false
  by_name true m h ih = by_version (x.ver == e.ver) refl h ih
  by_name false m h ih = let n : has es e ≡ false = ih h in grind (arith, bytes_eq-Decides)

-- ---- room

-- where the catalogue's entries fit, none of the blocks' entries is left over
pub none_over : (k : ℕ) (es : List RawEnt) → fits k (map plain_entry es) ≡ true → over name_of k es ≡ []
none_over k es h = by_left (over name_of k es) (map block_of (pack name_of k es)) (packing_fits k es ∙ h) where
  by_left : (left : List RawEnt) (blocks : List Block) → is_some (if_fits left blocks) ≡ true → left ≡ []
  by_left [] blocks t = refl
  by_left (e ∷ left) blocks t = absurd (cc)

-- ---- what a directory's blocks tell

pub never_more : (vbn : ℕ) (es : List RawEnt) (bs : List Block) (o : Option (List RawEnt))
    → ((fs : List RawEnt) → read_on (next_vbn vbn) fs bs ≡ Err NoMemory → ⊥)
    → and_then (one_more vbn es o) (λ fs. read_on (next_vbn vbn) fs bs) ≡ Err NoMemory → ⊥
never_more vbn es bs None ih h = cc
never_more vbn es bs (Some fs) ih h = go (rises (es ++ fresh es fs)) (any_clash es fs) h where
  go : (q r : Bool) → and_then (if q then (if r then Err Clash else Ok (es ++ fresh es fs)) else Err BadOrder) (λ fs. read_on (next_vbn vbn) fs bs) ≡ Err NoMemory → ⊥
  go false r h = cc
  go true true h = cc
  go true false h = ih (es ++ fresh es fs) h

-- memory is no matter of the blocks
pub never_memory : (vbn : ℕ) (es : List RawEnt) (bs : List Block) → read_on vbn es bs ≡ Err NoMemory → ⊥
never_memory vbn es [] h = cc
never_memory vbn es (b ∷ bs) h = never_more vbn es bs (block_entries b) (λ fs. never_memory (next_vbn vbn) fs bs) h

-- a directory in which nothing is found has entries
pub read_where_none_found : (n : ℕ) (bs : List Block) → found_in n (directory bs) ≡ None → (es : List RawEnt) × (directory bs ≡ Ok es)
read_where_none_found n bs h = by_read (directory bs) refl h where
  by_read : (r : Result (List RawEnt) DirFault) → directory bs ≡ r → found_in n r ≡ None → (es : List RawEnt) × (directory bs ≡ Ok es)
  by_read (Ok es) e h = (es, e)
  by_read (Err (BadRecord vbn)) e h = absurd (cc)
  by_read (Err BadOrder) e h = absurd (cc)
  by_read (Err Clash) e h = absurd (cc)
  by_read (Err NoMemory) e h = absurd (never_memory 1 [] bs e)

-- nothing is found where entries are read, whatever their limits and flags
pub none_found_where_read : (n : ℕ) (r : Result (List RawEnt) DirFault) (es : List RawEnt) → plainly r ≡ Ok es → found_in n r ≡ None
none_found_where_read n (Ok fs) es h = refl
none_found_where_read n (Err fault) es h = absurd (cc)

pub map_plain : (es : List RawEnt) → map plain_entry (map plain es) ≡ map plain_entry es
map_plain [] = refl
map_plain (e ∷ es) = λ i. plain_entry e ∷ map_plain es i

-- the catalogue's entries are told by those without limits and flags
pub entries_plainly : (r : Result (List RawEnt) DirFault) (es : List RawEnt) → plainly r ≡ Ok es → plain_entries r ≡ map plain_entry es
entries_plainly (Ok fs) es h = let e : map plain fs ≡ es = cc in sym (map_plain fs) ∙ ap (map plain_entry) e
entries_plainly (Err fault) es h = absurd (cc)
