-- Mending ends the same once an entry that does not stay is gone.
use Rattle.std.proofs.Common.{◌≡◌, ◌==◌, ◌&&◌, ◌-◌, ◌+◌, ◌<◌, ◌≤◌, ◌⊎◌, inl, inr, ◌++◌, ◌∙◌, ℕ, zero, suc, Bool, true, false, cond, not, List, [], ◌∷◌, Option, Some, None, length, map, slice_get, set, nat_le, refl, sym, ap, subst, arith}
use Rattle.std.specs.Prelude.{filter, option_map}
use Rattle.std.specs.Str.{bytes_eq}
use Rattle.std.proofs.lemmas.Bool.{and_parts, and_from, cases_eq, eqb-true, eq-eqb}
use Rattle.std.proofs.lemmas.Slice.Eq.{bytes_eq-Decides}
use Rattle.plain_cat.specs.declared.ids.Fid.{Fid}
use Rattle.plain_cat.specs.declared.entries.DirEnt.{DirEnt}
use Rattle.plain_cat.specs.declared.cat.Cat.{Cat}
use Rattle.plain_cat.specs.declared.cat.File.{File}
use Rattle.plain_cat.specs.declared.cat.Slot.{Slot}
use Rattle.plain_cat.specs.declared.cat.Slot.TheVariants.{Used, Free}
use Rattle.plain_rules.specs.declared.places.Place.{Place}
use Rattle.plain_rules.specs.Lookups.{file_at}
use Rattle.plain_rules.specs.Directories.{is_entry, without}
use Rattle.plain_rules.specs.Mending.{entries_in, places_from, places, same_fid, same_place, is_own, is_first, stays, less_entries, each_from, without_opens, without_entries, with_lost, stripped}
use Rattle.plain_mends.specs.Resuming.{MendsTo, AreKeyed, Goes, less_one, is_other}
use Rattle.plain_rules.proofs.Standing.{stands_at}
use Rattle.base_words.specs.Lists.{Has}
use Rattle.base_words.proofs.Listing.{has_from, has_parted, has_mapped, filter_all}
use Rattle.plain_laws.proofs.Standing.{number_rises, set_same, set_other, file_same, file_other, Alive}
use Rattle.plain_laws.proofs.Places.{in_to, fid_same, same_fid-refl, same_place-refl}
use Rattle.plain_laws.proofs.Steps.{bare, SameFiles, like_right, stays_parts, stays_from}
use Rattle.plain_mends.proofs.Frames.{ends_alike}

pub both_ways : (a b : Bool) → (a ≡ true → b ≡ true) → (b ≡ true → a ≡ true) → a ≡ b
both_ways true b h k = sym (h refl)
both_ways false true h k = k refl
both_ways false false h k = refl

-- ---- filtered lists

filter_join : {X : Type 0} (k : X → Bool) (xs ys : List X) → filter k (xs ++ ys) ≡ filter k xs ++ filter k ys
filter_join k [] ys = refl
filter_join {X} k (x ∷ xs) ys = by_case (k x) (filter_join k xs ys) where
  by_case : (b : Bool) → filter k (xs ++ ys) ≡ filter k xs ++ filter k ys → cond b (x ∷ filter k (xs ++ ys)) (filter k (xs ++ ys)) ≡ cond b (x ∷ filter k xs) (filter k xs) ++ filter k ys
  by_case true ih = ap (λ zs. x ∷ zs) ih
  by_case false ih = ih

filter_map : {X Y : Type 0} (f : X → Y) (k : Y → Bool) (l : X → Bool) (xs : List X) → ((x : X) → k (f x) ≡ l x) → filter k (map f xs) ≡ map f (filter l xs)
filter_map f k l [] h = refl
filter_map {X} {Y} f k l (x ∷ xs) h = ap (λ b. cond b (f x ∷ filter k (map f xs)) (filter k (map f xs))) (h x) ∙ by_case (l x) (filter_map f k l xs h) where
  by_case : (b : Bool) → filter k (map f xs) ≡ map f (filter l xs) → cond b (f x ∷ filter k (map f xs)) (filter k (map f xs)) ≡ map f (cond b (x ∷ filter l xs) (filter l xs))
  by_case true ih = ap (λ zs. f x ∷ zs) ih
  by_case false ih = ih

-- of the items that pass k, those that pass a are those that pass b
filter_two : {X : Type 0} (k a b : X → Bool) (xs : List X) → ((x : X) → Has xs x → k x ≡ true → a x ≡ b x) → ((x : X) → Has xs x → k x ≡ false → b x ≡ false)
    → filter a (filter k xs) ≡ filter b xs
filter_two k a b [] h l = refl
filter_two {X} k a b (x ∷ xs) h l = by_case (k x) refl (filter_two k a b xs (λ y i. h y (inr i)) (λ y i. l y (inr i))) where
  by_case : (q : Bool) → k x ≡ q → filter a (filter k xs) ≡ filter b xs → filter a (cond q (x ∷ filter k xs) (filter k xs)) ≡ cond (b x) (x ∷ filter b xs) (filter b xs)
  by_case true e ih = ap (λ q. cond q (x ∷ filter a (filter k xs)) (filter a (filter k xs))) (h x (inl refl) e) ∙ ap (λ zs. cond (b x) (x ∷ zs) zs) ih
  by_case false e ih = ih ∙ ap (λ q. cond q (x ∷ filter b xs) (filter b xs)) (sym (l x (inl refl) e))

pub filter_alike : {X : Type 0} (a b : X → Bool) (xs : List X) → ((x : X) → a x ≡ b x) → filter a xs ≡ filter b xs
filter_alike a b [] h = refl
filter_alike a b (x ∷ xs) h = ap (λ q. cond q (x ∷ filter a xs) (filter a xs)) (h x) ∙ ap (λ zs. cond (b x) (x ∷ zs) zs) (filter_alike a b xs h)

-- ---- the first entry of a file

abbrev Only : (Place → Bool) → Place → List Place → Type 0
Only k p ps = (r : Place) → Has ps r → k r ≡ false → r ≡ p

first_other : (p q : Place) (k : Place → Bool) (ps : List Place) → Only k p ps → same_fid p.entry.fid q.entry.fid ≡ false → is_first q (filter k ps) ≡ is_first q ps
first_other p q k [] only f = refl
first_other p q k (r ∷ rs) only f = by_case (k r) refl (first_other p q k rs (λ x i. only x (inr i)) f) where
  by_case : (b : Bool) → k r ≡ b → is_first q (filter k rs) ≡ is_first q rs → is_first q (cond b (r ∷ filter k rs) (filter k rs)) ≡ cond (same_fid r.entry.fid q.entry.fid) (same_place r q) (is_first q rs)
  by_case true e ih = ap (λ z. cond (same_fid r.entry.fid q.entry.fid) (same_place r q) z) ih
  by_case false e ih =
      let other : same_fid r.entry.fid q.entry.fid ≡ false = ap (λ (x : Place). same_fid x.entry.fid q.entry.fid) (only r (inl refl) e) ∙ f in
      ih ∙ ap (λ b. cond b (same_place r q) (is_first q rs)) (sym other)

first_same : (p q : Place) (k : Place → Bool) (ps : List Place) → Only k p ps → q.entry.fid ≡ p.entry.fid → is_first p ps ≡ false → is_first q (filter k ps) ≡ is_first q ps
first_same p q k [] only f lacks = refl
first_same p q k (r ∷ rs) only f lacks = by_case (k r) refl (first_same p q k rs (λ x i. only x (inr i)) f) where
  by_fid : (b : Bool) → same_fid r.entry.fid q.entry.fid ≡ b → (is_first p rs ≡ false → is_first q (filter k rs) ≡ is_first q rs)
      → cond b (same_place r q) (is_first q (filter k rs)) ≡ cond b (same_place r q) (is_first q rs)
  by_fid true e ih = refl
  by_fid false e ih =
      let other : same_fid r.entry.fid p.entry.fid ≡ false = ap (λ (x : Fid). same_fid r.entry.fid x) (sym f) ∙ e in
      ih (ap (λ b. cond b (same_place r p) (is_first p rs)) (sym other) ∙ lacks)

  by_case : (b : Bool) → k r ≡ b → (is_first p rs ≡ false → is_first q (filter k rs) ≡ is_first q rs)
      → is_first q (cond b (r ∷ filter k rs) (filter k rs)) ≡ cond (same_fid r.entry.fid q.entry.fid) (same_place r q) (is_first q rs)
  by_case true e ih = by_fid (same_fid r.entry.fid q.entry.fid) refl ih
  by_case false e ih =
      let same : r ≡ p = only r (inl refl) e in
      let here : same_fid r.entry.fid p.entry.fid ≡ true = same_fid-refl r.entry.fid p.entry.fid (ap (λ (x : Place). x.entry.fid) same) in
      let found : same_place r p ≡ true = same_place-refl r p same in
      let yes : is_first p (r ∷ rs) ≡ true = ap (λ b. cond b (same_place r p) (is_first p rs)) here ∙ found in
      absurd (cc)

-- ---- slots

pub each_alike : (g h : ℕ → Slot → Slot) (m : ℕ) (xs ys : List Slot) → ((i : ℕ) → option_map (g (m + i)) (slice_get xs i) ≡ option_map (h (m + i)) (slice_get ys i)) → each_from g m xs ≡ each_from h m ys
each_alike g h m [] [] same = refl
each_alike g h m [] (y ∷ ys) same = absurd (let e = same 0 in cc)
each_alike g h m (x ∷ xs) [] same = absurd (let e = same 0 in cc)
each_alike g h m (x ∷ xs) (y ∷ ys) same =
    let here : m + 0 ≡ m = omega arith in
    let e : Some (g m x) ≡ Some (h m y) = ap (λ k. Some (g k x)) (sym here) ∙ same 0 ∙ ap (λ k. Some (h k y)) here in
    let first : g m x ≡ h m y = cc in
    let rest : each_from g (m + 1) xs ≡ each_from h (m + 1) ys = each_alike g h (m + 1) xs ys (λ i.
    let there : m + 1 + i ≡ m + suc i = omega arith in
    ap (λ k. option_map (g k) (slice_get xs i)) there ∙ same (suc i) ∙ ap (λ k. option_map (h k) (slice_get ys i)) (sym there)) in
    ap (λ (s : Slot). s ∷ each_from g (m + 1) xs) first ∙ ap (λ ss. h m y ∷ ss) rest

-- ---- where places stand

has_at : {X : Type 0} (xs : List X) (x : X) → Has xs x → (i : ℕ) × (slice_get xs i ≡ Some x)
has_at [] x h = absurd h
has_at (y ∷ ys) x (inl e) = (0, ap Some e)
has_at (y ∷ ys) x (inr h) = let r = has_at ys x h in (suc r.0, r.1)

at_has : {X : Type 0} (xs : List X) (x : X) (i : ℕ) → slice_get xs i ≡ Some x → Has xs x
at_has [] x i e = absurd (cc e)
at_has (y ∷ ys) x zero e = inl (cc e)
at_has (y ∷ ys) x (suc i) e = inr (at_has ys x i e)

-- a directory's entries come at its number or above
number_from : (m : ℕ) (ss : List Slot) (r : Place) → Has (places_from m ss) r → m ≤ r.dir
number_from m [] r h = absurd h
number_from m (s ∷ ss) r h = by_case (has_parted (map (λ (x : DirEnt). record { dir = m; entry = x }) (entries_in s)) (places_from (m + 1) ss) r h) (λ k. number_from (m + 1) ss r k) where
  by_case : Has (map (λ (x : DirEnt). record { dir = m; entry = x }) (entries_in s)) r ⊎ Has (places_from (m + 1) ss) r → (Has (places_from (m + 1) ss) r → m + 1 ≤ r.dir) → m ≤ r.dir
  by_case (inl h) rest = let k = has_mapped (λ (x : DirEnt). record { dir = m; entry = x }) (entries_in s) r h in let e : m ≡ r.dir = ap (λ (q : Place). q.dir) k.2 in omega (arith, e)
  by_case (inr h) rest = let k = rest h in omega (arith, k)

-- all but one pass
none_less : {X : Type 0} (k : X → Bool) (xs : List X) → ((j : ℕ) (x : X) → slice_get xs j ≡ Some x → k x ≡ false → ⊥) → filter k xs ≡ xs
none_less k xs h = filter_all k xs (λ x has. passes x has (k x) refl) where
  passes : (x : _) → Has xs x → (b : Bool) → k x ≡ b → b ≡ true
  passes x has true e = refl
  passes x has false e = let r = has_at xs x has in absurd (h r.0 x r.1 e)

one_less : {X : Type 0} (k : X → Bool) (xs : List X) (i : ℕ) (x : X) → slice_get xs i ≡ Some x → k x ≡ false
    → ((j : ℕ) (y : X) → slice_get xs j ≡ Some y → k y ≡ false → j ≡ i) → length (filter k xs) + 1 ≡ length xs
one_less k [] i x at fails only = absurd (cc at)
one_less {X} k (y ∷ ys) zero x at fails only =
    let same : y ≡ x = cc at in
    let out : k y ≡ false = ap k same ∙ fails in
    let rest : filter k ys ≡ ys = none_less k ys (λ j z there lacks. let e = only (suc j) z there lacks in absurd (cc e)) in
    let both : filter k (y ∷ ys) ≡ ys = ap (λ b. cond b (y ∷ filter k ys) (filter k ys)) out ∙ rest in
    let e : length (filter k (y ∷ ys)) ≡ length ys = ap length both in
    omega (arith, e)
one_less {X} k (y ∷ ys) (suc i) x at fails only = by_head (k y) refl (one_less k ys i x at fails (λ j z there lacks. let e = only (suc j) z there lacks in omega (arith, e))) where
  by_head : (b : Bool) → k y ≡ b → length (filter k ys) + 1 ≡ length ys → length (cond b (y ∷ filter k ys) (filter k ys)) + 1 ≡ length (y ∷ ys)
  by_head true e ih = omega (arith, ih)
  by_head false e ih = let f = only 0 y refl e in absurd (cc f)

keyed_one : (c : Cat) → AreKeyed c → (p q : Place) → Has (places c) p → Has (places c) q → same_place p q ≡ true → p ≡ q
keyed_one c keyed p q h k same =
    let a = has_at (places c) p h in
    let b = has_at (places c) q k in
    let number : a.0 ≡ b.0 = keyed a.0 b.0 p q a.1 b.1 same in
    let both : Some p ≡ Some q = sym a.1 ∙ (ap (slice_get (places c)) number ∙ b.1) in
    cc both

-- ---- the entry that goes

pub alive_over : (x y : Cat) (fid : Fid) → SameFiles x y → Alive x fid → Alive y fid
alive_over x y fid same a =
    let l = like_right x y fid.num a.file same a.at in
    record { file = l.file; at = l.at; seq = ap (λ (f : File). f.seq) l.same ∙ a.seq; free = ap (λ (f : File). f.marked) l.same ∙ a.free }

module _ (c : Cat) (p : Place) (d : File) (keyed : AreKeyed c) (goes : Goes c p d) where
  abbrev pub x : Cat
  x = less_one c p d

  abbrev pub gone : DirEnt → Bool
  gone e = is_entry p.entry.name p.entry.ver e

  abbrev pub keep : Place → Bool
  keep = is_other p

  stands : slice_get c.files (p.dir - 1) ≡ Some (Used d)
  stands = stands_at c p.dir d goes.at

  rises : 0 < p.dir
  rises = number_rises c p.dir d goes.at

  is_in : Has (places c) p
  is_in = in_to c p (record { file = d; at = goes.at; dir = goes.dir; entry = has_from d.entries p.entry goes.entry })

  -- what goes is this entry alone
  gone_is : (e : DirEnt) → gone e ≡ true → same_place (record { dir = p.dir; entry = e }) p ≡ true
  unfolding is_entry same_place
  gone_is e h =
      let b = and_parts (bytes_eq e.name p.entry.name) (e.ver == p.entry.ver) h in
      and_from (p.dir == p.dir) (bytes_eq e.name p.entry.name && (e.ver == p.entry.ver)) (eq-eqb p.dir p.dir refl) (and_from (bytes_eq e.name p.entry.name) (e.ver == p.entry.ver) b.0 b.1)

  not_false : (b : Bool) → not b ≡ false → b ≡ true
  not_false true h = refl
  not_false false h = absurd (cc h)

  only : Only keep p (places c)
  only r i h =
      let b = and_parts (r.dir == p.dir) (gone r.entry) (not_false ((r.dir == p.dir) && gone r.entry) h) in
      let here : r.dir ≡ p.dir = eqb-true r.dir p.dir b.0 in
      let moved : record { dir = p.dir; entry = r.entry } ≡ r = ap (λ (n : ℕ). record { dir = n; entry = r.entry }) (sym here) in
      let same : same_place r p ≡ true = subst (λ (q : Place). same_place q p ≡ true) moved (gone_is r.entry b.1) in
      keyed_one c keyed r p i is_in same

  same_as : (r : Place) → keep r ≡ false → same_place r p ≡ true
  same_as r h =
      let b = and_parts (r.dir == p.dir) (gone r.entry) (not_false ((r.dir == p.dir) && gone r.entry) h) in
      let here : r.dir ≡ p.dir = eqb-true r.dir p.dir b.0 in
      let moved : record { dir = p.dir; entry = r.entry } ≡ r = ap (λ (n : ℕ). record { dir = n; entry = r.entry }) (sym here) in
      subst (λ (q : Place). same_place q p ≡ true) moved (gone_is r.entry b.1)

  keep_other : (r : Place) → (r.dir ≡ p.dir → ⊥) → keep r ≡ true
  keep_other r other = by_case (r.dir == p.dir) refl where
    by_case : (b : Bool) → (r.dir == p.dir) ≡ b → not (b && gone r.entry) ≡ true
    by_case true e = absurd (other (eqb-true r.dir p.dir e))
    by_case false e = refl

  keep_here : (e : DirEnt) → keep (record { dir = p.dir; entry = e }) ≡ not (gone e)
  keep_here e = ap (λ b. not (b && gone e)) (eq-eqb p.dir p.dir refl)

  -- the places that are left
  places_less : (m : ℕ) (ss : List Slot) (i : ℕ) → slice_get ss i ≡ Some (Used d) → p.dir ≡ m + i
      → places_from m (set ss i (Used (record d { entries = without p.entry.name p.entry.ver d.entries }))) ≡ filter keep (places_from m ss)
  places_less m [] i at e = absurd (cc at)
  places_less m (s ∷ ss) zero at e =
      let same : s ≡ Used d = cc at in
      let here : p.dir ≡ m = omega (arith, e) in
      let own : entries_in s ≡ d.entries = ap entries_in same ∙ ap (λ b. cond b d.entries []) goes.dir in
      let less : List DirEnt = without p.entry.name p.entry.ver d.entries in
      let new : cond d.dir less [] ≡ less = ap (λ b. cond b less []) goes.dir in
      let kept : filter keep (places_from (m + 1) ss) ≡ places_from (m + 1) ss =
      filter_all keep (places_from (m + 1) ss) (λ r i. let k = number_from (m + 1) ss r i in keep_other r (λ f. omega (arith, k, f, here))) in
      let put : List DirEnt → List Place = map (λ (x : DirEnt). record { dir = m; entry = x }) in
      let mine : filter keep (put d.entries) ≡ put less =
      filter_map (λ (x : DirEnt). record { dir = m; entry = x }) keep (λ x. not (gone x)) d.entries (λ x. ap (λ (n : ℕ). keep (record { dir = n; entry = x })) (sym here) ∙ keep_here x) in
      ap (λ es. put es ++ places_from (m + 1) ss) new
      ∙ sym (ap (λ es. filter keep (put es ++ places_from (m + 1) ss)) own
      ∙ filter_join keep (put d.entries) (places_from (m + 1) ss)
      ∙ ap (λ rs. filter keep (put d.entries) ++ rs) kept
      ∙ ap (λ rs. rs ++ places_from (m + 1) ss) mine)
  places_less m (s ∷ ss) (suc i) at e =
      let ih = places_less (m + 1) ss i at (omega (arith, e)) in
      let put : List Place = map (λ (x : DirEnt). record { dir = m; entry = x }) (entries_in s) in
      let kept : filter keep put ≡ put = filter_all_put m s (λ f. omega (arith, e, f)) in
      ap (λ rs. put ++ rs) ih ∙ sym (filter_join keep put (places_from (m + 1) ss) ∙ ap (λ rs. rs ++ filter keep (places_from (m + 1) ss)) kept)
    where
      filter_all_put : (m : ℕ) (s : Slot) → (m ≡ p.dir → ⊥) → filter keep (map (λ (x : DirEnt). record { dir = m; entry = x }) (entries_in s)) ≡ map (λ (x : DirEnt). record { dir = m; entry = x }) (entries_in s)
      filter_all_put m s other = all (entries_in s) where
        all : (es : List DirEnt) → filter keep (map (λ (x : DirEnt). record { dir = m; entry = x }) es) ≡ map (λ (x : DirEnt). record { dir = m; entry = x }) es
        all [] = refl
        all (x ∷ es) =
            ap (λ b. cond b (record { dir = m; entry = x } ∷ filter keep (map (λ (x : DirEnt). record { dir = m; entry = x }) es)) (filter keep (map (λ (x : DirEnt). record { dir = m; entry = x }) es))) (keep_other (record { dir = m; entry = x }) other)
            ∙ ap (λ rs. record { dir = m; entry = x } ∷ rs) (all es)

  pub left : places x ≡ filter keep (places c)
  left = places_less 1 c.files (p.dir - 1) stands (omega (arith, rises))

  out : keep p ≡ false
  unfolding is_entry
  out =
      let name : bytes_eq p.entry.name p.entry.name ≡ true = (bytes_eq-Decides p.entry.name p.entry.name).1 refl in
      ap not (and_from (p.dir == p.dir) (gone p.entry) (eq-eqb p.dir p.dir refl) (and_from (bytes_eq p.entry.name p.entry.name) (p.entry.ver == p.entry.ver) name (eq-eqb p.entry.ver p.entry.ver refl)))

  pub one_fewer : length (places x) + 1 ≡ length (places c)
  one_fewer =
      let a = has_at (places c) p is_in in
      ap (λ ps. length ps + 1) left ∙ one_less keep (places c) a.0 p a.1 out (λ j r there lacks. keyed j a.0 r p there a.1 (same_as r lacks))

  -- the same files but for their entries
  same_files : SameFiles c x
  same_files n = by_case (cases_eq n p.dir) where
    by_case : (n ≡ p.dir) ⊎ (n ≡ p.dir → ⊥) → option_map bare (file_at c n) ≡ option_map bare (file_at x n)
    by_case (inl here) =
        ap (λ k. option_map bare (file_at c k)) here ∙ ap (λ o. option_map bare o) goes.at
        ∙ sym (ap (λ k. option_map bare (file_at x k)) here ∙ ap (λ o. option_map bare o) (file_same c p.dir d (record d { entries = without p.entry.name p.entry.ver d.entries }) goes.at))
    by_case (inr other) =
        ap (λ o. option_map bare o) (sym (file_other c p.dir n (Used (record d { entries = without p.entry.name p.entry.ver d.entries })) rises other))

  back_files : SameFiles x c
  back_files n = sym (same_files n)

  -- an entry of a live file is its first one before and after
  firsts : (q : Place) → Alive c q.entry.fid → nat_le q.entry.fid.num 11 ≡ false → is_first q (places x) ≡ is_first q (places c)
  firsts q alive high = ap (is_first q) left ∙ by_fid (same_fid p.entry.fid q.entry.fid) refl where
    by_fid : (b : Bool) → same_fid p.entry.fid q.entry.fid ≡ b → is_first q (filter keep (places c)) ≡ is_first q (places c)
    by_fid false e = first_other p q keep (places c) only e
    by_fid true e =
        let same : p.entry.fid ≡ q.entry.fid = fid_same p.entry.fid q.entry.fid e in
        let mine : Alive c p.entry.fid = subst (Alive c) (sym same) alive in
        let up : nat_le p.entry.fid.num 11 ≡ false = ap (λ (f : Fid). nat_le f.num 11) same ∙ high in
        first_same p q keep (places c) only (sym same) (not_first mine up)
      where
        not_first : Alive c p.entry.fid → nat_le p.entry.fid.num 11 ≡ false → is_first p (places c) ≡ false
        not_first a up = by_bool (is_first p (places c)) refl where
          by_bool : (b : Bool) → is_first p (places c) ≡ b → b ≡ false
          by_bool false f = refl
          by_bool true f =
              let yes : stays c p ≡ true = stays_from c p a (ap (λ b. cond b (is_own p) (is_first p (places c))) up ∙ f) in
              let lacks : stays c p ≡ false = goes.goes in absurd (cc)

  pub stays_alike : (q : Place) → stays x q ≡ stays c q
  stays_alike q = both_ways (stays x q) (stays c q) (λ h.
      let w = stays_parts x q h in let a = alive_over x c q.entry.fid back_files w.0 in stays_from c q a (sym (part q a) ∙ w.1)) (λ h.
      let w = stays_parts c q h in stays_from x q (alive_over c x q.entry.fid same_files w.0) (part q w.0 ∙ w.1))
    where
      part : (q : Place) → Alive c q.entry.fid → cond (nat_le q.entry.fid.num 11) (is_own q) (is_first q (places x)) ≡ cond (nat_le q.entry.fid.num 11) (is_own q) (is_first q (places c))
      part q a = by_number (nat_le q.entry.fid.num 11) refl where
        by_number : (b : Bool) → nat_le q.entry.fid.num 11 ≡ b → cond b (is_own q) (is_first q (places x)) ≡ cond b (is_own q) (is_first q (places c))
        by_number true e = refl
        by_number false e = firsts q a e

  shut : (y : Cat) (q : Place) → stays (without_opens y) q ≡ stays y q
  unfolding stays
  shut y q = refl

  stays_on : (q : Place) → stays (without_opens x) q ≡ stays (without_opens c) q
  stays_on q = shut x q ∙ stays_alike q ∙ sym (shut c q)

  not_true : (b : Bool) → not b ≡ false → b ≡ true
  not_true true h = refl
  not_true false h = absurd (cc h)

  here_less : less_entries (without_opens x) p.dir (Used (record d { entries = without p.entry.name p.entry.ver d.entries })) ≡ less_entries (without_opens c) p.dir (Used d)
  here_less =
      let es : filter (λ e. stays (without_opens x) (record { dir = p.dir; entry = e })) (without p.entry.name p.entry.ver d.entries) ≡ filter (λ e. stays (without_opens c) (record { dir = p.dir; entry = e })) d.entries =
      filter_two (λ e. not (gone e)) (λ e. stays (without_opens x) (record { dir = p.dir; entry = e })) (λ e. stays (without_opens c) (record { dir = p.dir; entry = e })) d.entries
      (λ e i k. stays_on (record { dir = p.dir; entry = e }))
      (λ e i k.
      let q : Place = record { dir = p.dir; entry = e } in
      let in_c : Has (places c) q = in_to c q (record { file = d; at = goes.at; dir = goes.dir; entry = i }) in
      let same : q ≡ p = keyed_one c keyed q p in_c is_in (gone_is e (not_true (gone e) k)) in
      shut c q ∙ ap (stays c) same ∙ goes.goes) in
      ap (λ xs. Used (record d { entries = xs })) es

  else_less : (n : ℕ) (s : Slot) → less_entries (without_opens x) n s ≡ less_entries (without_opens c) n s
  else_less n (Free q) = refl
  else_less n (Used f) =
      ap (λ xs. Used (record f { entries = xs })) (filter_alike (λ e. stays (without_opens x) (record { dir = n; entry = e })) (λ e. stays (without_opens c) (record { dir = n; entry = e })) f.entries (λ e. stays_on (record { dir = n; entry = e })))

  option_alike : (n : ℕ) (o : Option Slot) → option_map (less_entries (without_opens x) n) o ≡ option_map (less_entries (without_opens c) n) o
  option_alike n None = refl
  option_alike n (Some s) = ap Some (else_less n s)

  files_less : each_from (less_entries (without_opens x)) 1 x.files ≡ each_from (less_entries (without_opens c)) 1 c.files
  files_less = each_alike (less_entries (without_opens x)) (less_entries (without_opens c)) 1 x.files c.files (λ i. by_case i (cases_eq i (p.dir - 1))) where
    v : Slot
    v = Used (record d { entries = without p.entry.name p.entry.ver d.entries })

    by_case : (i : ℕ) → (i ≡ p.dir - 1) ⊎ (i ≡ p.dir - 1 → ⊥) → option_map (less_entries (without_opens x) (1 + i)) (slice_get (set c.files (p.dir - 1) v) i) ≡ option_map (less_entries (without_opens c) (1 + i)) (slice_get c.files i)
    by_case i (inl here) =
        let number : 1 + i ≡ p.dir = omega (arith, here, rises) in
        ap (λ k. option_map (less_entries (without_opens x) (1 + i)) (slice_get (set c.files (p.dir - 1) v) k)) here
        ∙ ap (λ o. option_map (less_entries (without_opens x) (1 + i)) o) (set_same c.files (p.dir - 1) v (Used d) stands)
        ∙ ap (λ k. Some (less_entries (without_opens x) k v)) number
        ∙ ap (λ (s : Slot). Some s) here_less
        ∙ sym (ap (λ k. option_map (less_entries (without_opens c) (1 + i)) (slice_get c.files k)) here
        ∙ ap (λ o. option_map (less_entries (without_opens c) (1 + i)) o) stands
        ∙ ap (λ k. Some (less_entries (without_opens c) k (Used d))) number)
    by_case i (inr other) =
        ap (λ o. option_map (less_entries (without_opens x) (1 + i)) o) (set_other c.files (p.dir - 1) i v (λ e. other (sym e)))
        ∙ option_alike (1 + i) (slice_get c.files i)

  -- what is left after step 1 is the same
  pub stripped_alike : without_entries (without_opens x) ≡ without_entries (without_opens c)
  stripped_alike = ap (λ fs. record (without_opens c) { files = fs }) files_less

pub entry_ends : (c : Cat) (p : Place) (d : File) (z : Cat) → AreKeyed c → Goes c p d → MendsTo c z → MendsTo (less_one c p d) z
entry_ends c p d z keyed goes = ends_alike c (less_one c p d) z (λ b h.
    record { middle = b; entered = ap with_lost (stripped_alike c p d keyed goes) ∙ h; right = refl })

pub entry_stays : (c : Cat) (p : Place) (d : File) (q : Place) → AreKeyed c → Goes c p d → stays (less_one c p d) q ≡ stays c q
entry_stays c p d q keyed goes = stays_alike c p d keyed goes q

pub entry_first : (c : Cat) (p : Place) (d : File) → AreKeyed c → Goes c p d → stripped (less_one c p d) ≡ stripped c
entry_first c p d keyed goes = stripped_alike c p d keyed goes

pub entry_others : (c : Cat) (p : Place) (d : File) → AreKeyed c → Goes c p d → places (less_one c p d) ≡ filter (is_other p) (places c)
entry_others c p d keyed goes = left c p d keyed goes

pub entry_fewer : (c : Cat) (p : Place) (d : File) → AreKeyed c → Goes c p d → length (places (less_one c p d)) + 1 ≡ length (places c)
entry_fewer c p d keyed goes = one_fewer c p d keyed goes
