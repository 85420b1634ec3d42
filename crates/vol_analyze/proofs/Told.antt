-- What the catalogue has, where it is that of a volume.
use Rattle.std.proofs.Common.{◌≡◌, ◌<◌, ◌+◌, ◌∙◌, ◌++◌, ℕ, Bool, List, [], ◌∷◌, length, get_or, map, filter, ap, append_assoc, arith}
use Rattle.std.specs.Prelude.{if◌then◌else◌}
use Rattle.std.specs.List.{range_with_len, count_by}
use Rattle.std.proofs.lemmas.List.Elements.{filter-append}
use Rattle.std.proofs.lemmas.List.FromFn.{length-map-range_with_len, get_or-map-range_with_len}
use Rattle.plain_cat.specs.declared.cat.Cat.{Cat}
use Rattle.plain_cat.specs.declared.cat.Slot.{Slot}
use Rattle.plain_rules.specs.Mending.{places, is_true}
use Rattle.vol_parts.specs.declared.finding.Finding.{Finding}
use Rattle.vol_parts.specs.declared.finding.Finding.TheVariants as finding
use Rattle.vol_parts.specs.Volumes.{Volume, IsNumber, numbers}
use Rattle.vol_parts.specs.Catalogues.{slot_of, files_of, is_outside_number, catalogue}
use Rattle.vol_parts.specs.Warnings.{has_doubles, has_surplus, is_stray, if_any, warnings}
use Rattle.vol_parts.proofs.Ranges.{range-more}
use Rattle.vol_parts.proofs.Sizes.{length-files_of}
use Rattle.vol_analyze.specs.Kinds.{marked_of, nameless_of, seconds_of, lost_of, usages_of, findings_with}

told_files : (v : Volume) (c : Cat) (items : List Slot) → c ≡ catalogue v → items ≡ c.files → items ≡ files_of v
unfolding catalogue
told_files v c items e i = i ∙ ap (λ (k : Cat). k.files) e

-- there is a slot for each number
pub told_long : (v : Volume) (c : Cat) (items : List Slot) → c ≡ catalogue v → items ≡ c.files → length items ≡ v.home.files
told_long v c items e i = ap length (told_files v c items e i) ∙ length-files_of v

-- and a flag
pub told_flags : (v : Volume) (c : Cat) → c ≡ catalogue v → length c.leaked_numbers ≡ v.home.files
unfolding catalogue
told_flags v c e =
    ap (λ (k : Cat). length k.leaked_numbers) e ∙ length-map-range_with_len (is_outside_number v) 1 v.home.files

pub told_number : (v : Volume) (c : Cat) (items : List Slot) (i : ℕ) → c ≡ catalogue v → items ≡ c.files → i < length items → IsNumber v (i + 1)
told_number v c items i e s lt = record { from = omega arith; to = omega (arith, told_long v c items e s) }

-- the slot at a place is that of the number
pub told_slot : (v : Volume) (c : Cat) (items : List Slot) (i : ℕ) (x : Slot) → c ≡ catalogue v → items ≡ c.files → i < length items
    → x ≡ get_or items i x → x ≡ slot_of v (i + 1)
unfolding files_of
told_slot v c items i x e s lt is =
    is ∙ (ap (λ (l : List Slot). get_or l i x) (told_files v c items e s)
    ∙ get_or-map-range_with_len (slot_of v) 1 v.home.files i (i + 1) x (omega (arith, told_long v c items e s)) (omega arith))

-- one number further
pub filter_next : (p : ℕ → Bool) (i : ℕ)
    → filter p (range_with_len 1 (i + 1)) ≡ filter p (range_with_len 1 i) ++ (if p (i + 1) then (i + 1) ∷ [] else [])
filter_next p i =
    ap (filter p) (range-more 1 i (i + 1) (omega arith)) ∙ filter-append p (range_with_len 1 i) ((i + 1) ∷ [])

-- the directories that have doubles, the files that have surplus, and the headers that are in no chain
pub record AreNumbers (v : Volume) (ds ss hs : List ℕ) : Type 0 where
  pub doubles : ds ≡ filter (has_doubles v) (numbers v)
  pub surplus : ss ≡ filter (has_surplus v) (numbers v)
  pub strays : hs ≡ filter (is_stray v) (numbers v)

-- the kinds in order are all findings
pub warnings_is : (v : Volume) (c : Cat) (ds ss hs : List ℕ) → c ≡ catalogue v → AreNumbers v ds ss hs → findings_with c ds ss hs ≡ warnings v
unfolding warnings
warnings_is v c ds ss hs e are =
    let k : Cat = catalogue v in
    let d : List ℕ = filter (has_doubles v) (numbers v) in
    let s : List ℕ = filter (has_surplus v) (numbers v) in
    let h : List ℕ = filter (is_stray v) (numbers v) in
    ap (λ (t : Cat). findings_with t ds ss hs) e ∙ (ap (λ (t : List ℕ). findings_with k t ss hs) are.doubles
    ∙ ap (λ (t : List ℕ). findings_with k d t hs) are.surplus ∙ ap (λ (t : List ℕ). findings_with k d s t) are.strays
    ∙ ap (λ (t : List Finding).
    marked_of k ++ (nameless_of k (places k) ++ (seconds_of k (places k)
    ++ (map finding.Doubles d ++ (lost_of k ++ (map finding.Surplus s ++ (map finding.Stray h ++ t)))))))
    (append_assoc (if_any finding.LeakedClusters k.leaked) (if_any finding.LeakedNumbers (count_by is_true k.leaked_numbers)) (usages_of k)))
