-- What is appended to a list of entries.
use Rattle.std.proofs.Common.{◌≡◌, ◌∙◌, Bool, true, false, List, [], ◌∷◌, ◌++◌, Option, Some, None, drop, length, refl, sym, ap, subst, if◌then◌else◌}
use Rattle.std.specs.Prelude.{option_and_then, unwrap_or, IsSome}
use Rattle.fx_dir.specs.Directory.{entries_at}
use Rattle.base_words.specs.Fields.{Block, IsBytes}
use Rattle.fx_dir.specs.declared.RawEnt.{RawEnt}
use Rattle.fx_dir.specs.Lists.{Each}
use Rattle.fx_dir.specs.Entries.{rises}
use Rattle.fx_dir.specs.Records.{records_in, if_rising, block_entries}
use Rattle.fx_dir.specs.Writing.{IsInForm}
use Rattle.fx_dir.specs.Pieces.{if_whole, behind}
use Rattle.fx_dir.proofs.Forming.{records-form}

-- where not all was there, there was none
pub lacks : (b : Bool) (es new : List RawEnt) (o : Option (List RawEnt)) → if_whole b new ≡ behind es o → b ≡ false → o ≡ None
lacks true es new o h e = absurd (cc)
lacks false es new None h e = refl
lacks false es new (Some fs) h e = absurd (cc)

-- and else it stands behind the list
pub found : (b : Bool) (es new : List RawEnt) (o : Option (List RawEnt)) → if_whole b new ≡ behind es o → b ≡ true → (fs : List RawEnt) × (o ≡ Some fs) × (new ≡ es ++ fs)
found false es new o h e = absurd (cc)
found true es new None h e = absurd (cc)
found true es new (Some fs) h e = let k : new ≡ es ++ fs = cc in (fs, refl, k)

pub drop-behind : (es fs : List RawEnt) → drop (length es) (es ++ fs) ≡ fs
drop-behind [] fs = refl
drop-behind (e ∷ es) fs = drop-behind es fs

-- a block whose records were found is one where their entries rise
pub found-block : (b : Block) (es new fs : List RawEnt) → records_in (length b) b ≡ Some fs → new ≡ es ++ fs → if_whole (rises (drop (length es) new)) new ≡ behind es (block_entries b)
unfolding block_entries
found-block b es new fs r n =
    let d : drop (length es) new ≡ fs = ap (drop (length es)) n ∙ drop-behind es fs in
    rw (r, d, n) (step (rises fs)) where
      step : (q : Bool) → if_whole q (es ++ fs) ≡ behind es (if q then Some fs else None)
      step true = refl
      step false = refl

-- and one whose records were not is none
pub lacks-block : (b : Block) (es : List RawEnt) → records_in (length b) b ≡ None → None ≡ behind es (block_entries b)
unfolding block_entries
lacks-block b es r = rw r refl

-- the entries of a block are in form and in order
pub block-sound : (b : Block) (fs : List RawEnt) → IsBytes b → block_entries b ≡ Some fs → Each IsInForm fs × (rises fs ≡ true)
unfolding block_entries
block-sound b fs bytes h = go (records_in (length b) b) refl h where
  step : (es : List RawEnt) → records_in (length b) b ≡ Some es → (q : Bool) → q ≡ rises es → (if q then Some es else None) ≡ Some fs → Each IsInForm fs × (rises fs ≡ true)
  step es r true k h =
      let e : es ≡ fs = cc in
      (subst (λ (t : List RawEnt). Each IsInForm t) e (records-form (length b) b es bytes r), subst (λ (t : List RawEnt). rises t ≡ true) e (sym k))
  step es r false k h = absurd (cc)

  go : (o : Option (List RawEnt)) → o ≡ records_in (length b) b → option_and_then if_rising o ≡ Some fs → Each IsInForm fs × (rises fs ≡ true)
  go None k h = absurd (cc)
  go (Some es) k h = step es (sym k) (rises es) refl h

-- the entries of a block that is a list of records in order are those of its records
pub block-whole : (b : Block) → IsSome (block_entries b) → records_in (length b) b ≡ Some (entries_at b)
unfolding block_entries
block-whole b h = by_records (records_in (length b) b) refl h where
  by_rising : (es : List RawEnt) (q : Bool) → IsSome (if q then Some es else None) → es ≡ unwrap_or (if q then Some es else None) []
  by_rising es true k = refl
  by_rising es false k = absurd (cc)

  by_records : (o : Option (List RawEnt)) → records_in (length b) b ≡ o → IsSome (option_and_then if_rising o) → records_in (length b) b ≡ Some (unwrap_or (option_and_then if_rising (records_in (length b) b)) [])
  by_records None e k = absurd (cc)
  by_records (Some es) e k = e ∙ ap Some (by_rising es (rises es) k) ∙ ap (λ o. Some (unwrap_or (option_and_then if_rising o) [])) (sym e)

-- where there was something, it stands behind the list
pub sure : (b : Bool) (es new : List RawEnt) (o : Option (List RawEnt)) → if_whole b new ≡ behind es o → IsSome o → (fs : List RawEnt) × (o ≡ Some fs) × (new ≡ es ++ fs)
sure true es new o h s = found true es new o h refl
sure false es new None h s = absurd (cc)
sure false es new (Some fs) h s = absurd (cc)
