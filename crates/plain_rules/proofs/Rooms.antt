-- Room in a directory, whatever an entry has besides its name.
use Rattle.plain_cat.specs.declared.entries.DirEnt.{DirEnt}
use Rattle.base_words.specs.Packing.{cost, unfilled, over}
use Rattle.plain_cat.specs.declared.ids.Fid.{Fid}
use Rattle.plain_rules.specs.Directories.{nowhere, is_nil, before, inserted, fits, entry}
use Rattle.std.proofs.Common.{◌≡◌, ◌+◌, ◌∙◌, ℕ, zero, suc, Bool, true, false, cond, List, [], ◌∷◌, Option, Some, None, map, refl, sym, ap}
use Rattle.std.specs.Prelude.{leb}

-- the entry of no file
abbrev pub unnumbered : DirEnt → DirEnt
unnumbered e = record e { fid = nowhere }

pub nil_alike : (es : List DirEnt) → is_nil es ≡ is_nil (map unnumbered es)
nil_alike [] = refl
nil_alike (e ∷ es) = refl

pub inserted_alike : (e : DirEnt) (es : List DirEnt) → map unnumbered (inserted e es) ≡ inserted (unnumbered e) (map unnumbered es)
unfolding before
inserted_alike e [] = refl
inserted_alike e (x ∷ es) = by_test (before e x) (inserted_alike e es) where
  by_test : (t : Bool) → map unnumbered (inserted e es) ≡ inserted (unnumbered e) (map unnumbered es)
      → map unnumbered (cond t (e ∷ x ∷ es) (x ∷ inserted e es)) ≡ cond t (unnumbered e ∷ unnumbered x ∷ map unnumbered es) (unnumbered x ∷ inserted (unnumbered e) (map unnumbered es))
  by_test true h = refl
  by_test false h = ap (λ xs. unnumbered x ∷ xs) h

abbrev name_of : DirEnt → List ℕ
name_of e = e.name

unfilled_alike : (last : Option (List ℕ)) (used : ℕ) (es : List DirEnt) → map unnumbered (unfilled name_of last used es) ≡ unfilled name_of last used (map unnumbered es)
unfilled_alike last used [] = refl
unfilled_alike last used (e ∷ es) = by_test (leb (used + cost last e.name) 510) (unfilled_alike (Some e.name) (used + cost last e.name) es) where
  by_test : (t : Bool) → map unnumbered (unfilled name_of (Some e.name) (used + cost last e.name) es) ≡ unfilled name_of (Some e.name) (used + cost last e.name) (map unnumbered es)
      → map unnumbered (cond t (unfilled name_of (Some e.name) (used + cost last e.name) es) (e ∷ es))
      ≡ cond t (unfilled name_of (Some e.name) (used + cost last e.name) (map unnumbered es)) (unnumbered e ∷ map unnumbered es)
  by_test true h = h
  by_test false h = refl

over_alike : (k : ℕ) (es : List DirEnt) → map unnumbered (over name_of k es) ≡ over name_of k (map unnumbered es)
over_alike zero es = refl
over_alike (suc k) es = over_alike k (unfilled name_of None 0 es) ∙ ap (over name_of k) (unfilled_alike None 0 es)

fits_alike : (k : ℕ) (es : List DirEnt) → fits k es ≡ fits k (map unnumbered es)
unfolding fits
fits_alike k es = nil_alike (over name_of k es) ∙ ap is_nil (over_alike k es)

-- an entry has room whatever its file
pub room_of_any : (k : ℕ) (name : List ℕ) (ver : ℕ) (fid other : Fid) (es : List DirEnt) → fits k (inserted (entry name ver fid) es) ≡ fits k (inserted (entry name ver other) es)
room_of_any k name ver fid other es =
    fits_alike k (inserted (entry name ver fid) es) ∙ ap (fits k) (inserted_alike (entry name ver fid) es)
    ∙ sym (fits_alike k (inserted (entry name ver other) es) ∙ ap (fits k) (inserted_alike (entry name ver other) es))

-- as that of no file
pub room_alike : (k : ℕ) (e : DirEnt) (es : List DirEnt) → fits k (inserted e es) ≡ fits k (inserted (entry e.name e.ver nowhere) es)
room_alike k e es =
    let f : DirEnt = entry e.name e.ver nowhere in
    fits_alike k (inserted e es) ∙ ap (fits k) (inserted_alike e es) ∙ sym (fits_alike k (inserted f es) ∙ ap (fits k) (inserted_alike f es))
