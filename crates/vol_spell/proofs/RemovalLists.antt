-- An entry that is in a directory, and the entries without one.
use Rattle.std.proofs.Common.{◌≡◌, ◌∙◌, ℕ, Bool, true, false, cond, List, [], ◌∷◌, Some, map, refl, sym, ap, subst, if◌then◌else◌}
use Rattle.std.specs.Prelude.{◌==◌, ◌&&◌, ◌||◌, not, is_some}
use Rattle.std.specs.Str.{bytes_eq}
use Rattle.fx_dir.specs.declared.RawEnt.{RawEnt}
use Rattle.fx_dir.specs.Entries.{same, has, without as without_raw}
use Rattle.fx_dir.specs.Lists.{Each}
use Rattle.fx_dir.specs.Moves.{key}
use Rattle.fx_dir.proofs.Order.{bytes_refl, bytes_is, eqb_refl, eqb_eq}
use Rattle.plain_cat.specs.declared.entries.DirEnt.{DirEnt}
use Rattle.plain_rules.specs.Lookups.{versions, highest, first_with, entry_of}
use Rattle.plain_rules.specs.Directories.{is_entry, without, is_taken}
use Rattle.vol_parts.specs.Catalogues.{plain_entry}

-- ---- tests that go either way round

-- two tests of which each follows from the other
alike : (p q : Bool) → (p ≡ true → q ≡ true) → (q ≡ true → p ≡ true) → p ≡ q
alike true true f g = refl
alike true false f g = sym (f refl)
alike false true f g = g refl
alike false false f g = refl

bytes_either : (xs ys : List ℕ) → bytes_eq xs ys ≡ bytes_eq ys xs
bytes_either xs ys = alike (bytes_eq xs ys) (bytes_eq ys xs) (turn xs ys) (turn ys xs) where
  turn : (us vs : List ℕ) → bytes_eq us vs ≡ true → bytes_eq vs us ≡ true
  turn us vs h = subst (λ (t : List ℕ). bytes_eq t us ≡ true) (bytes_is us vs h) (bytes_refl us)

num_either : (m n : ℕ) → (m == n) ≡ (n == m)
num_either m n = alike (m == n) (n == m) (turn m n) (turn n m) where
  turn : (a b : ℕ) → (a == b) ≡ true → (b == a) ≡ true
  turn a b h = subst (λ (t : ℕ). (t == a) ≡ true) (eqb_eq a b h) (eqb_refl a)

-- an entry of this name and version, as the blocks and as the catalogue have it
pub same_alike : (name : List ℕ) (ver : ℕ) (x : RawEnt) → same (key name ver) x ≡ is_entry name ver (plain_entry x)
unfolding same is_entry
same_alike name ver x = λ i. bytes_either name x.name i && num_either ver x.ver i

-- ---- the entries without one

-- it goes out of both
pub without_plain : (name : List ℕ) (ver : ℕ) (es : List RawEnt) → map plain_entry (without_raw (key name ver) es) ≡ without name ver (map plain_entry es)
without_plain name ver [] = refl
without_plain name ver (x ∷ es) = by_test (same (key name ver) x) (is_entry name ver (plain_entry x)) (same_alike name ver x) (without_plain name ver es) where
  by_test : (p q : Bool) → p ≡ q → map plain_entry (without_raw (key name ver) es) ≡ without name ver (map plain_entry es)
      → map plain_entry (cond (not p) (x ∷ without_raw (key name ver) es) (without_raw (key name ver) es)) ≡ cond (not q) (plain_entry x ∷ without name ver (map plain_entry es)) (without name ver (map plain_entry es))
  by_test true true e ih = ih
  by_test false false e ih = λ i. plain_entry x ∷ ih i
  by_test true false e ih = absurd (cc)
  by_test false true e ih = absurd (cc)

-- ---- an entry that is there

-- a version that is taken is there
pub is_there : (name : List ℕ) (ver : ℕ) (es : List RawEnt) → is_taken ver (versions name (map plain_entry es)) ≡ true → has es (key name ver) ≡ true
unfolding same
is_there name ver [] h = absurd (cc)
is_there name ver (x ∷ es) h = by_name (bytes_eq x.name name) (bytes_either name x.name) h (is_there name ver es) where
  vs : List DirEnt
  vs = versions name (map plain_entry es)

  or_more : (p : Bool) → has es (key name ver) ≡ true → p || has es (key name ver) ≡ true
  or_more true k = refl
  or_more false k = k

  by_version : (q : Bool) → ver == x.ver ≡ q → is_some (if q then Some (plain_entry x) else first_with ver vs) ≡ true → (is_taken ver vs ≡ true → has es (key name ver) ≡ true)
      → q || has es (key name ver) ≡ true
  by_version true v h ih = refl
  by_version false v h ih = ih h

  by_name : (q : Bool) → bytes_eq name x.name ≡ q → is_taken ver (cond q (plain_entry x ∷ vs) vs) ≡ true → (is_taken ver vs ≡ true → has es (key name ver) ≡ true) → (bytes_eq name x.name && (ver == x.ver)) || has es (key name ver) ≡ true
  by_name true m h ih =
      let v : (x.ver == ver) ≡ (ver == x.ver) = num_either x.ver ver in
      ap (λ p. (p && (ver == x.ver)) || has es (key name ver)) m
      ∙ by_version (ver == x.ver) refl (ap (λ q. is_some (if q then Some (plain_entry x) else first_with ver vs)) (sym v) ∙ h) ih
  by_name false m h ih = or_more (bytes_eq name x.name && (ver == x.ver)) (ih h)

-- ---- an entry that was looked for

-- what is found has the version
with_its_version : (ver : ℕ) (es : List DirEnt) (e : DirEnt) → first_with ver es ≡ Some e → e.ver ≡ ver
with_its_version ver [] e h = absurd (cc)
with_its_version ver (x ∷ es) e h = by_test (x.ver == ver) refl h (with_its_version ver es e) where
  by_test : (q : Bool) → (x.ver == ver) ≡ q → cond q (Some x) (first_with ver es) ≡ Some e → (first_with ver es ≡ Some e → e.ver ≡ ver) → e.ver ≡ ver
  by_test true v k more = let same : x ≡ e = cc in ap (λ (y : DirEnt). y.ver) (sym same) ∙ eqb_eq x.ver ver v
  by_test false v k more = more k

-- and, among those of a name, the name
with_its_name : (ver : ℕ) (name : List ℕ) (es : List DirEnt) (e : DirEnt) → first_with ver (versions name es) ≡ Some e → e.name ≡ name
with_its_name ver name [] e h = absurd (cc)
with_its_name ver name (x ∷ es) e h = by_name (bytes_eq x.name name) refl h (with_its_name ver name es e) where
  by_version : (q : Bool) → bytes_eq x.name name ≡ true → cond q (Some x) (first_with ver (versions name es)) ≡ Some e → (first_with ver (versions name es) ≡ Some e → e.name ≡ name) → e.name ≡ name
  by_version true m k more = let same : x ≡ e = cc in ap (λ (y : DirEnt). y.name) (sym same) ∙ bytes_is x.name name m
  by_version false m k more = more k

  by_name : (q : Bool) → bytes_eq x.name name ≡ q → first_with ver (cond q (x ∷ versions name es) (versions name es)) ≡ Some e → (first_with ver (versions name es) ≡ Some e → e.name ≡ name) → e.name ≡ name
  by_name true m k more = by_version (x.ver == ver) m k more
  by_name false m k more = more k

pub found_name : (name : List ℕ) (ver : ℕ) (es : List DirEnt) (e : DirEnt) → entry_of (versions name es) ver ≡ Some e → e.name ≡ name
found_name name ver es e h = with_its_name (if ver == 0 then highest (versions name es) else ver) name es e h

-- an entry that was found is there
pub found_there : (name : List ℕ) (ver : ℕ) (es : List DirEnt) (e : DirEnt) → entry_of (versions name es) ver ≡ Some e → is_taken e.ver (versions e.name es) ≡ true
found_there name ver es e h =
    let v : ℕ = if ver == 0 then highest (versions name es) else ver in
    let at : e.ver ≡ v = with_its_version v (versions name es) e h in
    let of : e.name ≡ name = found_name name ver es e h in
    (λ i. is_some (first_with (at i) (versions (of i) es))) ∙ ap is_some h

-- what holds of all entries holds of the one that was found
pub found_so : (P : DirEnt → Type 0) (name : List ℕ) (ver : ℕ) (es : List RawEnt) (e : DirEnt) → Each (λ x. P (plain_entry x)) es → entry_of (versions name (map plain_entry es)) ver ≡ Some e → P e
found_so P name ver es e each h = along (if ver == 0 then highest (versions name (map plain_entry es)) else ver) es each h where
  along : (v : ℕ) (xs : List RawEnt) → Each (λ x. P (plain_entry x)) xs → first_with v (versions name (map plain_entry xs)) ≡ Some e → P e
  along v [] each h = absurd (cc)
  along v (x ∷ xs) each h = by_name (bytes_eq x.name name) h (along v xs each.1) where
    by_version : (q : Bool) → cond q (Some (plain_entry x)) (first_with v (versions name (map plain_entry xs))) ≡ Some e → (first_with v (versions name (map plain_entry xs)) ≡ Some e → P e) → P e
    by_version true k more = let here : plain_entry x ≡ e = cc in subst P here each.0
    by_version false k more = more k

    by_name : (q : Bool) → first_with v (cond q (plain_entry x ∷ versions name (map plain_entry xs)) (versions name (map plain_entry xs))) ≡ Some e → (first_with v (versions name (map plain_entry xs)) ≡ Some e → P e) → P e
    by_name true k more = by_version (x.ver == v) k more
    by_name false k more = more k
