-- What is read is in form.
use Rattle.std.proofs.Common.{◌≡◌, ◌+◌, ◌-◌, ◌*◌, ◌/◌, ◌<◌, ◌≤◌, ◌&&◌, Bool, true, false, ℕ, zero, suc, List, [], ◌∷◌, ◌++◌, Option, Some, None, option_map, drop, get_or-drop, refl, sym, subst, arith, not, cond, if◌then◌else◌}
use Rattle.std.specs.Prelude.{option_and_then, slice_index}
use Rattle.base_words.specs.Fields.{IsBytes, field}
use Rattle.base_words.specs.Names.{is_name}
use Rattle.fx_dir.specs.declared.RawEnt.{RawEnt}
use Rattle.fx_dir.specs.Lists.{Each}
use Rattle.fx_dir.specs.Entries.{has, fresh}
use Rattle.fx_dir.specs.Records.{record_length, head_length, name_in, is_end, is_whole, is_named, is_version, entry_in, versions_in, record_entries, records_in}
use Rattle.fx_dir.specs.Writing.{IsInForm}
use Rattle.fx_dir.proofs.Order.{and_cases}
use Rattle.fx_dir.proofs.Cover.{each-append}
use Rattle.fx_dir.proofs.Numbers.{leb_says}

drop-bytes : (n : ℕ) (b : List ℕ) → IsBytes b → IsBytes (drop n b)
drop-bytes n b h i = rw (get_or-drop n b i 0) (h (n + i))

small-field : (b : List ℕ) → IsBytes b → field b 0 2 < 65536
small-field b h = let l = h 0 in let m = h 1 in omega arith

large : (low high : ℕ) → low < 65536 → high < 256 → low + 65536 * high ≤ 16777215
large low high l h = omega arith

version-form : (head bytes : List ℕ) → is_version bytes ≡ true → is_name (name_in head) ≡ true → IsBytes bytes → IsInForm (entry_in head bytes)
unfolding is_version entry_in
version-form head bytes v n h =
    let p = and_cases _ _ v in
    let q = and_cases _ _ p.1 in
    let low : field bytes 2 2 < 65536 = small-field (drop 2 bytes) (drop-bytes 2 bytes h) in
    let high : slice_index bytes 7 < 256 = h 7 in
    record {
      named = n;
      from_one = leb_says 1 (field bytes 0 2) q.0;
      to_last = leb_says (field bytes 0 2) 32767 q.1;
      numbered = large (field bytes 2 2) (slice_index bytes 7) low high;
    }

versions-form : (head : List ℕ) (n : ℕ) (bytes : List ℕ) (es : List RawEnt) → is_name (name_in head) ≡ true → IsBytes bytes → versions_in head n bytes ≡ Some es → Each IsInForm es
versions-form head zero bytes es m h r = let e : [] ≡ es = cc in subst (λ (t : List RawEnt). Each IsInForm t) e tt
versions-form head (suc n) bytes es m h r = go (is_version bytes) refl (versions_in head n (drop 8 bytes)) refl (λ fs. versions-form head n (drop 8 bytes) fs m (drop-bytes 8 bytes h)) r where
  go : (q : Bool) → q ≡ is_version bytes → (o : Option (List RawEnt)) → o ≡ versions_in head n (drop 8 bytes) → ((fs : List RawEnt) → versions_in head n (drop 8 bytes) ≡ Some fs → Each IsInForm fs) → (if q then option_map (λ es. entry_in head bytes ∷ es) o else None) ≡ Some es → Each IsInForm es
  go false k o l ih r = absurd (cc)
  go true k None l ih r = absurd (cc)
  go true k (Some fs) l ih r =
      let e : entry_in head bytes ∷ fs ≡ es = cc in
      subst (λ (t : List RawEnt). Each IsInForm t) e (version-form head bytes (sym k) m h, ih fs (sym l))

-- a record that is named has a name
pub named : (bytes : List ℕ) → is_named bytes ≡ true → is_name (name_in bytes) ≡ true
unfolding is_named
named bytes t = (and_cases _ _ t).0

record-form : (bytes : List ℕ) (es : List RawEnt) → IsBytes bytes → record_entries bytes ≡ Some es → Each IsInForm es
unfolding record_entries
record-form bytes es h r = go (is_whole bytes && is_named bytes) refl r where
  go : (q : Bool) → q ≡ (is_whole bytes && is_named bytes) → (if q then versions_in bytes ((record_length bytes - head_length bytes) / 8) (drop (head_length bytes) bytes) else None) ≡ Some es → Each IsInForm es
  go false k r = absurd (cc)
  go true k r = versions-form bytes _ (drop (head_length bytes) bytes) es (named bytes (and_cases _ _ (sym k)).1) (drop-bytes (head_length bytes) bytes h) r

pub records-form : (n : ℕ) (bytes : List ℕ) (es : List RawEnt) → IsBytes bytes → records_in n bytes ≡ Some es → Each IsInForm es
unfolding records_in
records-form zero bytes es h r = absurd (cc)
records-form (suc n) bytes es h r = go (is_end bytes) (λ gs. records-form n (drop (record_length bytes) bytes) gs (drop-bytes (record_length bytes) bytes h)) r where
  go : (q : Bool) → ((gs : List RawEnt) → records_in n (drop (record_length bytes) bytes) ≡ Some gs → Each IsInForm gs) → (if q then Some [] else option_and_then (λ es. option_map (λ fs. es ++ fs) (records_in n (drop (record_length bytes) bytes))) (record_entries bytes)) ≡ Some es → Each IsInForm es
  go true ih r = let e : [] ≡ es = cc in subst (λ (t : List RawEnt). Each IsInForm t) e tt
  go false ih r = first (record_entries bytes) refl (records_in n (drop (record_length bytes) bytes)) refl r where
    first : (o : Option (List RawEnt)) → o ≡ record_entries bytes → (p : Option (List RawEnt)) → p ≡ records_in n (drop (record_length bytes) bytes) → option_and_then (λ es. option_map (λ fs. es ++ fs) p) o ≡ Some es → Each IsInForm es
    first None k p l r = absurd (cc)
    first (Some fs) k None l r = absurd (cc)
    first (Some fs) k (Some gs) l r =
        let e : fs ++ gs ≡ es = cc in
        subst (λ (t : List RawEnt). Each IsInForm t) e (each-append IsInForm fs gs (record-form bytes fs h (sym k)) (ih gs (sym l)))

pub fresh-each : (P : RawEnt → Type 0) (es fs : List RawEnt) → Each P fs → Each P (fresh es fs)
fresh-each P es [] n = tt
fresh-each P es (e ∷ fs) n = elim (not (has es e)) as (λ q. Each P (cond q (e ∷ fresh es fs) (fresh es fs))) [
  | true ↦ (n.0, fresh-each P es fs n.1)
  | false ↦ fresh-each P es fs n.1
]
