-- The entries that do not stay, one after another.
use Rattle.std.proofs.Common.{◌≡◌, ◌==◌, ◌≤◌, ◌+◌, ◌∙◌, ◌⊎◌, inl, inr, suc, Bool, true, false, cond, not, ℕ, List, [], ◌∷◌, Some, length, refl, sym, ap, subst, arith}
use Rattle.std.specs.Prelude.{filter}
use Rattle.std.specs.Str.{bytes_eq}
use Rattle.std.proofs.lemmas.Bool.{and_from, cases_Bool, eq-eqb}
use Rattle.std.proofs.lemmas.Slice.Eq.{bytes_eq-Decides}
use Rattle.plain_cat.specs.declared.entries.DirEnt.{DirEnt}
use Rattle.plain_cat.specs.declared.cat.Cat.{Cat}
use Rattle.plain_cat.specs.declared.cat.File.{File}
use Rattle.plain_rules.specs.declared.places.Place.{Place}
use Rattle.plain_rules.specs.Lookups.{file_at}
use Rattle.plain_rules.specs.Directories.{is_entry}
use Rattle.plain_rules.specs.Mending.{places, stays}
use Rattle.plain_mends.specs.Resuming.{AreKeyed, AllStay, Goes, less_one, is_other}
use Rattle.base_words.specs.Lists.{Has}
use Rattle.base_words.proofs.Listing.{has_to, has_filtered, has_passed}
use Rattle.plain_laws.proofs.Places.{in_from, in_to}
use Rattle.plain_mends.proofs.GoneSteps.{filter_alike, entry_stays, entry_others, entry_fewer}
use Rattle.plain_mends.proofs.Standing.{all_stay}
use Rattle.vol_rebuild.specs.Leaving.{leavers}
use Rattle.vol_rebuild.proofs.Filtering.{filter_swap, filter_fails, filter_whole}

-- an entry is not another one
not_other : (p : Place) → is_other p p ≡ false
unfolding is_entry
not_other p =
    let name : bytes_eq p.entry.name p.entry.name ≡ true = (bytes_eq-Decides p.entry.name p.entry.name).1 refl in
    ap not (and_from (p.dir == p.dir) (is_entry p.entry.name p.entry.ver p.entry) (eq-eqb p.dir p.dir refl) (and_from (bytes_eq p.entry.name p.entry.name) (p.entry.ver == p.entry.ver) name (eq-eqb p.entry.ver p.entry.ver refl)))

-- the first of them is one that goes
pub first_goes : (c : Cat) (p : Place) (ps : List Place) → leavers c ≡ p ∷ ps → (d : File) × Goes c p d
first_goes c p ps e =
    let there : Has (leavers c) p = subst (λ (xs : List Place). Has xs p) (sym e) (inl refl) in
    let r = has_filtered (λ (q : Place). not (stays c q)) (places c) p there in
    let i = in_from c p r.0 in
    (i.file, record { at = i.at; dir = i.dir; entry = has_to i.file.entries p.entry i.entry; goes = not_true (stays c p) r.1 })
  where
    not_true : (b : Bool) → not b ≡ true → b ≡ false
    not_true true h = absurd (cc h)
    not_true false h = refl

-- once it is gone, the others are left
pub leavers_next : (c : Cat) (p : Place) (ps : List Place) (d : File) → AreKeyed c → leavers c ≡ p ∷ ps → Goes c p d → leavers (less_one c p d) ≡ ps
leavers_next c p ps d keyed e goes = first ∙ (second ∙ (filter_swap leaves keep (places c) ∙ (ap (filter keep) e ∙ (head ∙ rest)))) where
  leaves : Place → Bool
  leaves q = not (stays c q)

  keep : Place → Bool
  keep = is_other p

  first : leavers (less_one c p d) ≡ filter leaves (places (less_one c p d))
  first = filter_alike (λ q. not (stays (less_one c p d) q)) leaves (places (less_one c p d)) (λ q. ap not (entry_stays c p d q keyed goes))

  second : filter leaves (places (less_one c p d)) ≡ filter leaves (filter keep (places c))
  second = ap (filter leaves) (entry_others c p d keyed goes)

  head : filter keep (p ∷ ps) ≡ filter keep ps
  head = ap (λ b. cond b (p ∷ filter keep ps) (filter keep ps)) (not_other p)

  enough : length ps ≤ length (filter keep ps)
  enough =
      let k = filter_fails leaves keep (places c) in
      let all : length (filter leaves (places c)) ≡ suc (length ps) = ap length e in
      let less : length (filter keep (places c)) + 1 ≡ length (places c) = ap (λ (xs : List Place). length xs + 1) (sym (entry_others c p d keyed goes)) ∙ entry_fewer c p d keyed goes in
      let both : length (filter keep (filter leaves (places c))) ≡ length (filter keep ps) = ap (λ (xs : List Place). length (filter keep xs)) e ∙ ap length head in
      omega (arith, k, all, less, both)

  rest : filter keep ps ≡ ps
  rest = filter_whole keep ps enough

-- where there is none, each entry stays
pub none_leaves : (c : Cat) → leavers c ≡ [] → ((n : ℕ) (f : File) → file_at c n ≡ Some f → f.dir ≡ false → f.entries ≡ []) → AllStay c
none_leaves c none plain = all_stay c (λ n f e at has. by_dir n f e at has (cases_Bool f.dir)) where
  by_stay : (p : Place) → Has (places c) p → (b : Bool) → stays c p ≡ b → stays c p ≡ true
  by_stay p has true s = s
  by_stay p has false s =
      let left : Has (leavers c) p = has_passed (λ (q : Place). not (stays c q)) (places c) p has (ap not s) in
      absurd (subst (λ (xs : List Place). Has xs p) none left)

  by_dir : (n : ℕ) (f : File) (e : DirEnt) → file_at c n ≡ Some f → Has f.entries e → (f.dir ≡ true) ⊎ (f.dir ≡ false) → stays c (record { dir = n; entry = e }) ≡ true
  by_dir n f e at has (inl is_dir) = let p : Place = record { dir = n; entry = e } in by_stay p (in_to c p (record { file = f; at = at; dir = is_dir; entry = has })) (stays c p) refl
  by_dir n f e at has (inr other) = absurd (subst (λ (es : List DirEnt). Has es e) (plain n f at other) has)
