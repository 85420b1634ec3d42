-- An entry that gets another name and version: whether it goes out first or the new one goes in first, the entries are the same.
use Rattle.std.proofs.Common.{◌≡◌, ◌∙◌, ℕ, Bool, true, false, cond, List, [], ◌∷◌, Some, map, refl, sym, ap}
use Rattle.std.specs.Prelude.{◌==◌, ◌&&◌, not, is_some}
use Rattle.std.specs.List.{list_all}
use Rattle.std.specs.Str.{bytes_eq}
use Rattle.fx_dir.specs.declared.RawEnt.{RawEnt}
use Rattle.fx_dir.specs.Entries.{same, before, rises, without as without_raw}
use Rattle.fx_dir.specs.Moves.{inserted as inserted_raw, key}
use Rattle.fx_dir.proofs.Order.{and_cases, both, before-trans, bytes_is, eqb_eq}
use Rattle.plain_cat.specs.declared.entries.DirEnt.{DirEnt}
use Rattle.plain_rules.specs.Lookups.{versions, first_with}
use Rattle.plain_rules.specs.Directories.{before as listed_before, inserted, is_entry, without, is_taken}
use Rattle.vol_parts.specs.Catalogues.{plain_entry}
use Rattle.vol_spell.specs.Entries.{raw_entry}
use Rattle.vol_spell.proofs.EntryLists.{inserted_plain}
use Rattle.vol_spell.proofs.RemovalLists.{same_alike, without_plain}

-- ---- what is there stays where another is entered

taken_behind : (ver : ℕ) (name : List ℕ) (y : DirEnt) (es : List DirEnt) → is_taken ver (versions name es) ≡ true → is_taken ver (versions name (y ∷ es)) ≡ true
taken_behind ver name y es h = by_name (bytes_eq y.name name) where
  by_version : (q : Bool) → is_some (cond q (Some y) (first_with ver (versions name es))) ≡ true
  by_version true = refl
  by_version false = h

  by_name : (q : Bool) → is_taken ver (cond q (y ∷ versions name es) (versions name es)) ≡ true
  by_name true = by_version (y.ver == ver)
  by_name false = h

taken_more : (ver : ℕ) (name : List ℕ) (y : DirEnt) (es fs : List DirEnt) → (is_taken ver (versions name es) ≡ true → is_taken ver (versions name fs) ≡ true)
    → is_taken ver (versions name (y ∷ es)) ≡ true → is_taken ver (versions name (y ∷ fs)) ≡ true
taken_more ver name y es fs more h = by_name (bytes_eq y.name name) h where
  by_version : (q : Bool) → is_some (cond q (Some y) (first_with ver (versions name es))) ≡ true → is_some (cond q (Some y) (first_with ver (versions name fs))) ≡ true
  by_version true h = refl
  by_version false h = more h

  by_name : (q : Bool) → is_taken ver (cond q (y ∷ versions name es) (versions name es)) ≡ true → is_taken ver (cond q (y ∷ versions name fs) (versions name fs)) ≡ true
  by_name true h = by_version (y.ver == ver) h
  by_name false h = more h

pub still_there : (ver : ℕ) (name : List ℕ) (new : DirEnt) (es : List DirEnt) → is_taken ver (versions name es) ≡ true → is_taken ver (versions name (inserted new es)) ≡ true
still_there ver name new [] h = absurd (cc)
still_there ver name new (x ∷ es) h = by_place (listed_before new x) (still_there ver name new es) where
  by_place : (q : Bool) → (is_taken ver (versions name es) ≡ true → is_taken ver (versions name (inserted new es)) ≡ true)
      → is_taken ver (versions name (cond q (new ∷ x ∷ es) (x ∷ inserted new es))) ≡ true
  by_place true more = taken_behind ver name new (x ∷ es) h
  by_place false more = taken_more ver name x es (inserted new es) more h

-- an entry of a name and version that is taken is none of a name and version that is not
pub is_other : (e new : DirEnt) (es : List DirEnt) → is_taken e.ver (versions e.name es) ≡ true → is_taken new.ver (versions new.name es) ≡ false → is_entry e.name e.ver new ≡ false
unfolding is_entry
is_other e new es there none = by_test (bytes_eq new.name e.name && (new.ver == e.ver)) refl where
  by_test : (q : Bool) → (bytes_eq new.name e.name && (new.ver == e.ver)) ≡ q → q ≡ false
  by_test false h = refl
  by_test true h =
      let p = and_cases (bytes_eq new.name e.name) (new.ver == e.ver) h in
      let n : new.name ≡ e.name = bytes_is new.name e.name p.0 in
      let v : new.ver ≡ e.ver = eqb_eq new.ver e.ver p.1 in
      let back : is_taken new.ver (versions new.name es) ≡ is_taken e.ver (versions e.name es) = λ i. is_taken (v i) (versions (n i) es) in
      sym (sym none ∙ back ∙ there)

-- ---- one out, one in

-- an entry that is before all others goes in front of them
in_front : (r : RawEnt) (es : List RawEnt) → list_all (before r) es ≡ true → inserted_raw r es ≡ r ∷ es
in_front r [] h = refl
in_front r (x ∷ es) h = let p = and_cases (before r x) (list_all (before r) es) h in ap (λ q. cond q (r ∷ x ∷ es) (x ∷ inserted_raw r es)) p.0

before_all : (r x : RawEnt) (es : List RawEnt) → before r x ≡ true → list_all (before x) es ≡ true → list_all (before r) es ≡ true
before_all r x [] b h = refl
before_all r x (y ∷ es) b h =
    let p = and_cases (before x y) (list_all (before x) es) h in
    both (before r y) (list_all (before r) es) (before-trans r x y b p.0) (before_all r x es b p.1)

before_others : (r k : RawEnt) (es : List RawEnt) → list_all (before r) es ≡ true → list_all (before r) (without_raw k es) ≡ true
before_others r k [] h = refl
before_others r k (x ∷ es) h = let p = and_cases (before r x) (list_all (before r) es) h in by_test (same k x) p.0 (before_others r k es p.1) where
  by_test : (q : Bool) → before r x ≡ true → list_all (before r) (without_raw k es) ≡ true → list_all (before r) (cond (not q) (x ∷ without_raw k es) (without_raw k es)) ≡ true
  by_test true first more = more
  by_test false first more = both (before r x) (list_all (before r) (without_raw k es)) first more

swapped : (r k : RawEnt) (es : List RawEnt) → same k r ≡ false → rises es ≡ true → without_raw k (inserted_raw r es) ≡ inserted_raw r (without_raw k es)
swapped r k [] other order = ap (λ q. cond (not q) (r ∷ []) []) other
swapped r k (x ∷ es) other order = let p = and_cases (list_all (before x) es) (rises es) order in by_place (before r x) refl p.0 (swapped r k es other p.1) where
  by_test : (q : Bool) → before r x ≡ false → without_raw k (inserted_raw r es) ≡ inserted_raw r (without_raw k es)
      → cond (not q) (x ∷ without_raw k (inserted_raw r es)) (without_raw k (inserted_raw r es)) ≡ inserted_raw r (cond (not q) (x ∷ without_raw k es) (without_raw k es))
  by_test true b more = more
  by_test false b more = ap (λ ys. x ∷ ys) more ∙ sym (ap (λ q. cond q (r ∷ x ∷ without_raw k es) (x ∷ inserted_raw r (without_raw k es))) b)

  by_place : (q : Bool) → before r x ≡ q → list_all (before x) es ≡ true → without_raw k (inserted_raw r es) ≡ inserted_raw r (without_raw k es)
      → without_raw k (cond q (r ∷ x ∷ es) (x ∷ inserted_raw r es)) ≡ inserted_raw r (without_raw k (x ∷ es))
  by_place true b first more =
      let front : list_all (before r) (x ∷ es) ≡ true = both (before r x) (list_all (before r) es) b (before_all r x es b first) in
      ap (λ q. cond (not q) (r ∷ without_raw k (x ∷ es)) (without_raw k (x ∷ es))) other ∙ sym (in_front r (without_raw k (x ∷ es)) (before_others r k (x ∷ es) front))
  by_place false b first more = by_test (same k x) b more

-- the same of the catalogue's entries, where these are in order
pub one_out_one_in : (name : List ℕ) (ver : ℕ) (new : DirEnt) (es : List DirEnt) (fs : List RawEnt) → es ≡ map plain_entry fs → rises fs ≡ true → is_entry name ver new ≡ false
    → without name ver (inserted new es) ≡ inserted new (without name ver es)
one_out_one_in name ver new es fs are order other =
    let r = raw_entry new in
    let k = key name ver in
    let apart : same k r ≡ false = same_alike name ver r ∙ other in
    ap (λ xs. without name ver (inserted new xs)) are
    ∙ ap (without name ver) (sym (inserted_plain r fs))
    ∙ sym (without_plain name ver (inserted_raw r fs))
    ∙ ap (map plain_entry) (swapped r k fs apart order)
    ∙ inserted_plain r (without_raw k fs)
    ∙ ap (inserted new) (without_plain name ver fs)
    ∙ ap (λ xs. inserted new (without name ver xs)) (sym are)
