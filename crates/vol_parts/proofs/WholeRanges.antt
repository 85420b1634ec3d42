-- The entries that are read of bytes are in form, and their numbers are those of their types.
use Rattle.std.proofs.Common.{◌≡◌, ◌-◌, ◌/◌, ◌&&◌, Bool, true, false, ℕ, zero, suc, List, [], ◌∷◌, ◌++◌, Option, Some, None, Ok, option_map, drop, length, unwrap_or, refl, sym, subst, if◌then◌else◌}
use Rattle.std.specs.Prelude.{option_and_then}
use Rattle.base_words.specs.Fields.{Block, IsBytes, AreWholeBlocks}
use Rattle.base_words.proofs.Puts.{field-lt}
use Rattle.fx_dir.specs.declared.RawEnt.{RawEnt}
use Rattle.fx_dir.specs.Lists.{Each}
use Rattle.fx_dir.specs.Records.{record_length, head_length, is_end, is_whole, is_named, is_version, entry_in, versions_in, record_entries, records_in, if_rising, block_entries}
use Rattle.fx_dir.specs.Entries.{rises}
use Rattle.fx_dir.specs.Directory.{directory, entries_at, all_entries}
use Rattle.fx_dir.specs.Writing.{IsInForm, IsRanged}
use Rattle.fx_dir.proofs.Meeting.{Sound}
use Rattle.fx_dir.proofs.Cover.{each-append, each-imp}
use Rattle.fx_dir.proofs.Finding.{each-at, reads_set}
use Rattle.fx_dir.proofs.Forming.{records-form}
use Rattle.vol_parts.proofs.Bytes.{bytes-drop}

entry-ranged : (head bytes : List ℕ) → IsBytes head → IsBytes bytes → IsRanged (entry_in head bytes)
unfolding entry_in
entry-ranged head bytes h k = record { seq = field-lt bytes 4 2 k; limit = field-lt head 2 2 h; flags = h 4 }

versions-ranged : (head : List ℕ) (n : ℕ) (bytes : List ℕ) (es : List RawEnt) → IsBytes head → IsBytes bytes → versions_in head n bytes ≡ Some es → Each IsRanged es
versions-ranged head zero bytes es h k r = let e : [] ≡ es = cc in subst (λ (t : List RawEnt). Each IsRanged t) e tt
versions-ranged head (suc n) bytes es h k r =
    go (is_version bytes) (versions_in head n (drop 8 bytes)) refl (λ fs. versions-ranged head n (drop 8 bytes) fs h (bytes-drop 8 bytes k)) r
  where
    go : (q : Bool) → (o : Option (List RawEnt)) → o ≡ versions_in head n (drop 8 bytes) → ((fs : List RawEnt) → versions_in head n (drop 8 bytes) ≡ Some fs → Each IsRanged fs)
        → (if q then option_map (λ es. entry_in head bytes ∷ es) o else None) ≡ Some es → Each IsRanged es
    go false o l ih r = absurd (cc)
    go true None l ih r = absurd (cc)
    go true (Some fs) l ih r =
        let e : entry_in head bytes ∷ fs ≡ es = cc in
        subst (λ (t : List RawEnt). Each IsRanged t) e (entry-ranged head bytes h k, ih fs (sym l))

record-ranged : (bytes : List ℕ) (es : List RawEnt) → IsBytes bytes → record_entries bytes ≡ Some es → Each IsRanged es
unfolding record_entries
record-ranged bytes es h r = go (is_whole bytes && is_named bytes) r where
  go : (q : Bool) → (if q then versions_in bytes ((record_length bytes - head_length bytes) / 8) (drop (head_length bytes) bytes) else None) ≡ Some es → Each IsRanged es
  go false r = absurd (cc)
  go true r = versions-ranged bytes _ (drop (head_length bytes) bytes) es h (bytes-drop (head_length bytes) bytes h) r

records-ranged : (n : ℕ) (bytes : List ℕ) (es : List RawEnt) → IsBytes bytes → records_in n bytes ≡ Some es → Each IsRanged es
unfolding records_in
records-ranged zero bytes es h r = absurd (cc)
records-ranged (suc n) bytes es h r =
    go (is_end bytes) (record_entries bytes) refl (records_in n (drop (record_length bytes) bytes)) refl
    (λ gs. records-ranged n (drop (record_length bytes) bytes) gs (bytes-drop (record_length bytes) bytes h)) r
  where
    go : (q : Bool) → (o : Option (List RawEnt)) → o ≡ record_entries bytes → (p : Option (List RawEnt)) → p ≡ records_in n (drop (record_length bytes) bytes)
        → ((gs : List RawEnt) → records_in n (drop (record_length bytes) bytes) ≡ Some gs → Each IsRanged gs)
        → (if q then Some [] else option_and_then (λ es. option_map (λ fs. es ++ fs) p) o) ≡ Some es → Each IsRanged es
    go true o k p l ih r = let e : [] ≡ es = cc in subst (λ (t : List RawEnt). Each IsRanged t) e tt
    go false None k p l ih r = absurd (cc)
    go false (Some fs) k None l ih r = absurd (cc)
    go false (Some fs) k (Some gs) l ih r =
        let e : fs ++ gs ≡ es = cc in
        subst (λ (t : List RawEnt). Each IsRanged t) e (each-append IsRanged fs gs (record-ranged bytes fs h (sym k)) (ih gs (sym l)))

-- what holds of the entries of a block's records holds of those that it is read as
block-each : (P : RawEnt → Type 0) (b : Block) → ((es : List RawEnt) → records_in (length b) b ≡ Some es → Each P es) → Each P (entries_at b)
unfolding block_entries
block-each P b n = go (records_in (length b) b) refl where
  kept : (q : Bool) (es : List RawEnt) → Each P es → Each P (unwrap_or (if q then Some es else None) [])
  kept true es m = m
  kept false es m = tt

  go : (o : Option (List RawEnt)) → o ≡ records_in (length b) b → Each P (unwrap_or (option_and_then if_rising o) [])
  go None e = tt
  go (Some es) e = kept (rises es) es (n es (sym e))

block-sound : (b : Block) → IsBytes b → Sound (entries_at b)
block-sound b h = record {
  form = block-each IsInForm b (λ es. records-form (length b) b es h);
  ranged = block-each IsRanged b (λ es. records-ranged (length b) b es h);
}

all-sound : (bs : List Block) → AreWholeBlocks bs → Sound (all_entries bs)
all-sound [] whole = record { form = tt; ranged = tt }
all-sound (b ∷ bs) whole =
    let here = block-sound b (whole 0 b refl).bytes in
    let rest = all-sound bs (λ l. whole (suc l)) in
    record {
      form = each-append IsInForm (entries_at b) (all_entries bs) here.form rest.form;
      ranged = each-append IsRanged (entries_at b) (all_entries bs) here.ranged rest.ranged;
    }

-- the entries of a directory of whole blocks
pub read-sound : (bs : List Block) (es : List RawEnt) → AreWholeBlocks bs → directory bs ≡ Ok es → Sound es
read-sound bs es whole read =
    let all = all-sound bs whole in
    let within = (reads_set bs es read).sound in
    record {
      form = each-imp _ IsInForm es (λ e i. each-at IsInForm (all_entries bs) e all.form i) within;
      ranged = each-imp _ IsRanged es (λ e i. each-at IsRanged (all_entries bs) e all.ranged i) within;
    }
