-- Catalogues with other entries in each directory.
use Rattle.std.proofs.Common.{◌≡◌, ◌+◌, ◌-◌, ◌∙◌, ◌⊎◌, inl, inr, zero, suc, ℕ, Bool, true, false, cond, not, List, [], ◌∷◌, Some, map, slice_get, slice_set, refl, sym, ap, subst, arith}
use Rattle.std.specs.Prelude.{◌==◌, ◌&&◌, ◌||◌, filter}
use Rattle.std.specs.List.{list_any}
use Rattle.std.specs.Str.{bytes_eq}
use Rattle.std.proofs.lemmas.Bool.{and_parts, and_from, cases_eq}
use Rattle.fx_dir.proofs.Order.{bytes_refl, bytes_is, eqb_refl, eqb_eq}
use Rattle.plain_cat.specs.declared.entries.DirEnt.{DirEnt}
use Rattle.plain_cat.specs.declared.cat.Cat.{Cat}
use Rattle.plain_cat.specs.declared.cat.File.{File}
use Rattle.plain_cat.specs.declared.cat.Slot.{Slot}
use Rattle.plain_cat.specs.declared.cat.Slot.TheVariants.{Used, Free}
use Rattle.plain_rules.specs.declared.places.Place.{Place}
use Rattle.plain_rules.specs.Lookups.{file_at}
use Rattle.plain_rules.specs.Directories.{is_entry, without}
use Rattle.plain_rules.specs.Changes.{with_entries}
use Rattle.plain_rules.specs.Mending.{same_place}
use Rattle.plain_rules.proofs.Standing.{stands_at}
use Rattle.plain_laws.proofs.Standing.{number_rises, file_from}
use Rattle.base_words.specs.Lists.{Has}
use Rattle.base_words.proofs.Listing.{filter_all}
use Rattle.vol_mends.proofs.Singles.{placed, place_parts, place_made}
use Rattle.vol_sound.specs.Begun.{each_listed, with_each}
use Rattle.vol_repair.specs.Alike.{bare, IsSameBut}
use Rattle.vol_repair.specs.Removing.{is_told, without_told, lists}

abbrev pub Change : Type 0
Change = ℕ → List DirEnt → List DirEnt

-- ---- slots, each with other entries

each_twice : (f h : Change) (n : ℕ) (ss : List Slot) → each_listed f n (each_listed h n ss) ≡ each_listed (λ k es. f k (h k es)) n ss
each_twice f h n [] = refl
each_twice f h n (Used x ∷ ss) = ap (λ rs. Used (record x { entries = f n (h n x.entries) }) ∷ rs) (each_twice f h (n + 1) ss)
each_twice f h n (Free seq ∷ ss) = ap (λ rs. Free seq ∷ rs) (each_twice f h (n + 1) ss)

-- two changes that give each of these files the same
pub each_alike : (f h : Change) (n : ℕ) (ss : List Slot) → ((i : ℕ) (x : File) → slice_get ss i ≡ Some (Used x) → f (n + i) x.entries ≡ h (n + i) x.entries) → each_listed f n ss ≡ each_listed h n ss
each_alike f h n [] same = refl
each_alike f h n (Used x ∷ ss) same =
    let here : n + 0 ≡ n = omega arith in
    let first : f n x.entries ≡ h n x.entries = subst (λ (k : ℕ). f k x.entries ≡ h k x.entries) here (same 0 x refl) in
    let rest : each_listed f (n + 1) ss ≡ each_listed h (n + 1) ss = each_alike f h (n + 1) ss (λ i y at.
    let there : n + suc i ≡ n + 1 + i = omega arith in subst (λ (k : ℕ). f k y.entries ≡ h k y.entries) there (same (suc i) y at)) in
    λ i. Used (record x { entries = first i }) ∷ rest i
each_alike f h n (Free seq ∷ ss) same =
    ap (λ rs. Free seq ∷ rs) (each_alike f h (n + 1) ss (λ i y at. let there : n + suc i ≡ n + 1 + i = omega arith in subst (λ (k : ℕ). f k y.entries ≡ h k y.entries) there (same (suc i) y at)))

none_other : (n : ℕ) (ss : List Slot) → each_listed (λ k es. es) n ss ≡ ss
none_other n [] = refl
none_other n (Used x ∷ ss) = ap (λ rs. Used x ∷ rs) (none_other (n + 1) ss)
none_other n (Free seq ∷ ss) = ap (λ rs. Free seq ∷ rs) (none_other (n + 1) ss)

-- a change that leaves each of these files
each_still : (f : Change) (n : ℕ) (ss : List Slot) → ((i : ℕ) (x : File) → slice_get ss i ≡ Some (Used x) → f (n + i) x.entries ≡ x.entries) → each_listed f n ss ≡ ss
each_still f n ss same = each_alike f (λ k es. es) n ss same ∙ none_other n ss

each_bare : (f : Change) (n : ℕ) (ss : List Slot) → map bare (each_listed f n ss) ≡ map bare ss
each_bare f n [] = refl
each_bare f n (Used x ∷ ss) = ap (λ rs. bare (Used x) ∷ rs) (each_bare f (n + 1) ss)
each_bare f n (Free seq ∷ ss) = ap (λ rs. bare (Free seq) ∷ rs) (each_bare f (n + 1) ss)

-- a change of one file alone
one_listed : (f : Change) (a : ℕ) (ss : List Slot) (i : ℕ) (d : File) → slice_get ss i ≡ Some (Used d) → ((k : ℕ) (es : List DirEnt) → (k ≡ a + i → ⊥) → f k es ≡ es)
    → each_listed f a ss ≡ slice_set ss i (Used (record d { entries = f (a + i) d.entries }))
one_listed f a [] i d at other = absurd (cc at)
one_listed f a (s ∷ ss) zero d at other =
    let same : s ≡ Used d = cc at in
    let here : a ≡ a + 0 = omega arith in
    ap (λ (x : Slot). each_listed f a (x ∷ ss)) same
    ∙ (λ j. Used (record d { entries = f (here j) d.entries }) ∷ each_still f (a + 1) ss (λ k x t. other (a + 1 + k) x.entries (λ e. let z : a + 1 + k ≡ a + 0 = e in omega (arith, z))) j)
one_listed f a (Used x ∷ ss) (suc i) d at other =
    let there : a + 1 + i ≡ a + suc i = omega arith in
    let first : f a x.entries ≡ x.entries = other a x.entries (λ e. let z : a ≡ a + suc i = e in omega (arith, z)) in
    let rest = one_listed f (a + 1) ss i d at (λ k es ne. other k es (λ e. ne (e ∙ sym there))) in
    (λ j. Used (record x { entries = first j }) ∷ rest j) ∙ ap (λ (k : ℕ). Used x ∷ slice_set ss i (Used (record d { entries = f k d.entries }))) there
one_listed f a (Free seq ∷ ss) (suc i) d at other =
    let there : a + 1 + i ≡ a + suc i = omega arith in
    let rest = one_listed f (a + 1) ss i d at (λ k es ne. other k es (λ e. ne (e ∙ sym there))) in
    ap (λ rs. Free seq ∷ rs) rest ∙ ap (λ (k : ℕ). Free seq ∷ slice_set ss i (Used (record d { entries = f k d.entries }))) there

-- ---- lists that are filtered

filter_both : {X : Type 0} (a b c : X → Bool) (xs : List X) → ((x : X) → c x ≡ (b x && a x)) → filter a (filter b xs) ≡ filter c xs
filter_both a b c [] same = refl
filter_both {X} a b c (x ∷ xs) same = by_test (b x) (a x) refl (filter_both a b c xs same) ∙ ap (λ q. cond q (x ∷ filter c xs) (filter c xs)) (sym (same x)) where
  by_test : (p q : Bool) → a x ≡ q → filter a (filter b xs) ≡ filter c xs → filter a (cond p (x ∷ filter b xs) (filter b xs)) ≡ cond (p && q) (x ∷ filter c xs) (filter c xs)
  by_test true true e rest = ap (λ r. cond r (x ∷ filter a (filter b xs)) (filter a (filter b xs))) e ∙ ap (λ zs. x ∷ zs) rest
  by_test true false e rest = ap (λ r. cond r (x ∷ filter a (filter b xs)) (filter a (filter b xs))) e ∙ rest
  by_test false q e rest = rest

pub filter_on : {X : Type 0} (a b : X → Bool) (xs : List X) → ((x : X) → Has xs x → a x ≡ b x) → filter a xs ≡ filter b xs
filter_on a b [] same = refl
filter_on a b (x ∷ xs) same = ap (λ q. cond q (x ∷ filter a xs) (filter a xs)) (same x (inl refl)) ∙ ap (λ zs. cond (b x) (x ∷ zs) zs) (filter_on a b xs (λ y h. same y (inr h)))

-- ---- entries that places tell

-- one after the others
told_next : (p : Place) (ps : List Place) (n : ℕ) (e : DirEnt) → not (is_told (p ∷ ps) n e) ≡ (not (is_told (p ∷ []) n e) && not (is_told ps n e))
unfolding is_told
told_next p ps n e = by (same_place p (placed n e)) where
  by : (b : Bool) → not (b || list_any (λ q. same_place q (placed n e)) ps) ≡ (not (b || false) && not (list_any (λ q. same_place q (placed n e)) ps))
  by true = refl
  by false = refl

without_next : (p : Place) (ps : List Place) (n : ℕ) (es : List DirEnt) → without_told ps n (without_told (p ∷ []) n es) ≡ without_told (p ∷ ps) n es
without_next p ps n es = filter_both (λ e. not (is_told ps n e)) (λ e. not (is_told (p ∷ []) n e)) (λ e. not (is_told (p ∷ ps) n e)) es (λ e. told_next p ps n e)

-- no place
without_none : (n : ℕ) (es : List DirEnt) → without_told [] n es ≡ es
unfolding is_told
without_none n es = filter_all (λ e. not (is_told [] n e)) es (λ e h. refl)

pub alike : (a b : Bool) → (a ≡ true → b ≡ true) → (b ≡ true → a ≡ true) → a ≡ b
alike true true f g = refl
alike true false f g = sym (f refl)
alike false true f g = g refl
alike false false f g = refl

-- whether one place tells an entry of its directory
told_one : (p : Place) (e : DirEnt) → is_told (p ∷ []) p.dir e ≡ is_entry p.entry.name p.entry.ver e
unfolding is_told is_entry
told_one p e = ends (same_place p (placed p.dir e)) ∙ alike (same_place p (placed p.dir e)) (bytes_eq e.name p.entry.name && (e.ver == p.entry.ver)) to from where
  ends : (b : Bool) → (b || false) ≡ b
  ends true = refl
  ends false = refl

  to : same_place p (placed p.dir e) ≡ true → (bytes_eq e.name p.entry.name && (e.ver == p.entry.ver)) ≡ true
  to h =
      let r = place_parts p (placed p.dir e) h in
      and_from (bytes_eq e.name p.entry.name) (e.ver == p.entry.ver) (subst (λ (m : List ℕ). bytes_eq m p.entry.name ≡ true) r.1 (bytes_refl p.entry.name)) (subst (λ (k : ℕ). (k == p.entry.ver) ≡ true) r.2 (eqb_refl p.entry.ver))

  from : (bytes_eq e.name p.entry.name && (e.ver == p.entry.ver)) ≡ true → same_place p (placed p.dir e) ≡ true
  from h =
      let r = and_parts (bytes_eq e.name p.entry.name) (e.ver == p.entry.ver) h in
      place_made p (placed p.dir e) refl (sym (bytes_is e.name p.entry.name r.0)) (sym (eqb_eq e.ver p.entry.ver r.1))

-- it tells none of another directory
told_other : (p : Place) (k : ℕ) (e : DirEnt) → (k ≡ p.dir → ⊥) → is_told (p ∷ []) k e ≡ false
unfolding is_told
told_other p k e other = by (same_place p (placed k e)) refl where
  by : (b : Bool) → same_place p (placed k e) ≡ b → (b || false) ≡ false
  by true h = absurd (other (sym (place_parts p (placed k e) h).0))
  by false h = refl

without_one : (p : Place) (es : List DirEnt) → without_told (p ∷ []) p.dir es ≡ without p.entry.name p.entry.ver es
without_one p es = filter_on (λ e. not (is_told (p ∷ []) p.dir e)) (λ e. not (is_entry p.entry.name p.entry.ver e)) es (λ e h. ap not (told_one p e))

without_other : (p : Place) (k : ℕ) (es : List DirEnt) → (k ≡ p.dir → ⊥) → without_told (p ∷ []) k es ≡ es
without_other p k es other = filter_all (λ e. not (is_told (p ∷ []) k e)) es (λ e h. ap not (told_other p k e other))

-- ---- catalogues

-- the files are the same but for their entries
pub each_same : (f : Change) (c : Cat) → IsSameBut c (with_each f c)
each_same f c = each_bare f 1 c.files

pub one_after : (f h : Change) (c : Cat) → with_each f (with_each h c) ≡ with_each (λ k es. f k (h k es)) c
one_after f h c = ap (λ (fs : List Slot). record c { files = fs }) (each_twice f h 1 c.files)

-- the entry of one place, and then those of the others
pub told_on : (c : Cat) (p : Place) (ps : List Place) → with_each (without_told ps) (with_each (without_told (p ∷ [])) c) ≡ with_each (without_told (p ∷ ps)) c
told_on c p ps = one_after (without_told ps) (without_told (p ∷ [])) c ∙ (λ i. with_each (λ n es. without_next p ps n es i) c)

-- no entry
pub told_none : (c : Cat) → with_each (without_told []) c ≡ c
told_none c = ap (λ (fs : List Slot). record c { files = fs }) (each_still (without_told []) 1 c.files (λ i x at. without_none (1 + i) x.entries))

-- an entry of the directory d
pub told_listed : (c : Cat) (p : Place) (d : File) → file_at c p.dir ≡ Some d → with_entries c p.dir d (without p.entry.name p.entry.ver d.entries) ≡ with_each (without_told (p ∷ [])) c
told_listed c p d at =
    let rises = number_rises c p.dir d at in
    let number : 1 + (p.dir - 1) ≡ p.dir = omega (arith, rises) in
    let one = one_listed (without_told (p ∷ [])) 1 c.files (p.dir - 1) d (stands_at c p.dir d at) (λ k es ne. without_other p k es (λ e. ne (e ∙ sym number))) in
    let left : without_told (p ∷ []) (1 + (p.dir - 1)) d.entries ≡ without p.entry.name p.entry.ver d.entries =
    ap (λ (k : ℕ). without_told (p ∷ []) k d.entries) number ∙ without_one p d.entries in
    sym (ap (λ (fs : List Slot). record c { files = fs }) one ∙ (λ i. with_entries c p.dir d (left i)))

-- where no directory has such an entry
pub told_nowhere : (c : Cat) (p : Place) → ((d : File) → file_at c p.dir ≡ Some d → without p.entry.name p.entry.ver d.entries ≡ d.entries) → c ≡ with_each (without_told (p ∷ [])) c
told_nowhere c p none = sym (ap (λ (fs : List Slot). record c { files = fs }) (each_still (without_told (p ∷ [])) 1 c.files (λ i x at. by_number i x at (cases_eq (1 + i) p.dir)))) where
  by_number : (i : ℕ) (x : File) → slice_get c.files i ≡ Some (Used x) → (1 + i ≡ p.dir) ⊎ (1 + i ≡ p.dir → ⊥) → without_told (p ∷ []) (1 + i) x.entries ≡ x.entries
  by_number i x at (inl e) =
      let place : i ≡ p.dir - 1 = omega (arith, e) in
      let file : file_at c p.dir ≡ Some x = file_from c p.dir x (omega (arith, e)) (subst (λ (k : ℕ). slice_get c.files k ≡ Some (Used x)) place at) in
      ap (λ (k : ℕ). without_told (p ∷ []) k x.entries) e ∙ (without_one p x.entries ∙ none x file)
  by_number i x at (inr other) = without_other p (1 + i) x.entries other

-- a list without an entry that it does not have
pub without_same : (p : Place) (es : List DirEnt) → lists p es ≡ false → without p.entry.name p.entry.ver es ≡ es
without_same p [] h = refl
without_same p (e ∷ es) h = by (is_entry p.entry.name p.entry.ver e) h (λ k. without_same p es k) where
  by : (b : Bool) → (b || lists p es) ≡ false → (lists p es ≡ false → without p.entry.name p.entry.ver es ≡ es) → cond (not b) (e ∷ without p.entry.name p.entry.ver es) (without p.entry.name p.entry.ver es) ≡ e ∷ es
  by true k rest = absurd (cc k)
  by false k rest = ap (λ xs. e ∷ xs) (rest k)
