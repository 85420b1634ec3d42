-- Of an accepted volume nothing is left to mend.
use Rattle.std.proofs.Common.{◌≡◌, ◌∙◌, ◌+◌, ◌-◌, ◌⊎◌, inl, inr, ℕ, zero, suc, Bool, true, false, cond, not, List, [], ◌∷◌, Option, Some, None, Result, Ok, Err, map, filter, slice_get, refl, sym, ap, subst, arith}
use Rattle.std.specs.Prelude.{◌==◌, ◌&&◌, is_none, count_by}
use Rattle.std.proofs.lemmas.Bool.{cases_Bool, eqb-true}
use Rattle.std.proofs.lemmas.List.Sums.{sum_by-cons}
use Rattle.std.proofs.lemmas.Option.{slice_get_within}
use Rattle.base_words.specs.Fields.{Block}
use Rattle.base_words.specs.Lists.{Has}
use Rattle.base_words.proofs.Listing.{has_at, has_passed, all_from, none_left, none_right}
use Rattle.fx_home.specs.declared.home.Home.{Home}
use Rattle.fx_home.specs.declared.home.HomeFault.{HomeFault}
use Rattle.fx_home.specs.Homes.{home_read}
use Rattle.fx_dir.specs.Directory.{directory}
use Rattle.plain_cat.specs.declared.entries.DirEnt.{DirEnt}
use Rattle.plain_cat.specs.declared.cat.Cat.{Cat}
use Rattle.plain_cat.specs.declared.cat.File.{File}
use Rattle.plain_cat.specs.declared.cat.Slot.{Slot}
use Rattle.plain_cat.specs.declared.cat.Slot.TheVariants.{Used, Free}
use Rattle.plain_cat.specs.declared.cat.QuotaRow.{QuotaRow}
use Rattle.plain_rules.specs.declared.places.Place.{Place}
use Rattle.plain_rules.specs.Lookups.{file_at, in_use, live, unmarked}
use Rattle.plain_rules.specs.Accounts.{charge}
use Rattle.plain_rules.specs.Mending.{places, stays, is_lost_slot, is_empty, numbers_from, is_true}
use Rattle.plain_rules.proofs.Standing.{stands_at}
use Rattle.plain_laws.specs.Clearing.{IsUnmarked}
use Rattle.plain_laws.proofs.Standing.{number_rises}
use Rattle.plain_laws.proofs.Places.{in_to}
use Rattle.plain_mends.specs.Waiting.{IsDone}
use Rattle.plain_mends.proofs.Standing.{all_stay}
use Rattle.plain_mends.proofs.Numbers.{no_numbers, none_passes}
use Rattle.plain_mends.proofs.SoundAnswers.{used_part}
use Rattle.vol_parts.specs.declared.finding.Finding.{Finding}
use Rattle.vol_parts.specs.declared.finding.Finding.TheVariants as finding
use Rattle.vol_parts.specs.declared.geometry.Geometry.{Geometry}
use Rattle.vol_parts.specs.Volumes.{Volume, volume, numbers}
use Rattle.vol_parts.specs.Catalogues.{catalogue, plain_entries}
use Rattle.vol_parts.specs.Warnings.{is_marked, names_none, is_second, names_none_found, second_found, has_doubles, is_lost_file, has_surplus, is_stray, if_any, is_miscounted, usage_found, warnings}
use Rattle.vol_parts.specs.Findings.{home_at, Weak, IsFirstFatal, Accepts, AreWarningsBy, IsCatalogueBy, CatOf}
use Rattle.vol_spell.specs.Owners.{Owners}
use Rattle.vol_spell.specs.Reading.{IsFileNumber, told_of, body_blocks}
use Rattle.vol_spell.specs.Spelling.{Spells}
use Rattle.vol_mends.proofs.Tests.{tells_file}

-- ---- lists of findings

none_mapped : {X Y : Type 0} (f : X → Y) (xs : List X) → [] ≡ map f xs → xs ≡ []
none_mapped f [] e = refl
none_mapped f (x ∷ xs) e = absurd (cc e)

none_kept : {X : Type 0} (p : X → Bool) (xs : List X) → filter p xs ≡ [] → (x : X) → Has xs x → p x ≡ false
none_kept p xs e x has = by_case (p x) refl where
  by_case : (b : Bool) → p x ≡ b → p x ≡ false
  by_case true t = absurd (subst (λ zs. Has zs x) e (has_passed p xs x has t))
  by_case false t = t

none_if : (found : ℕ → Finding) (n : ℕ) → [] ≡ if_any found n → n ≡ 0
none_if found n e = by_case (n == 0) refl e where
  by_case : (b : Bool) → (n == 0) ≡ b → [] ≡ cond b [] (found n ∷ []) → n ≡ 0
  by_case true t h = eqb-true n 0 t
  by_case false t h = absurd (cc h)

no_flag : (bs : List Bool) → count_by is_true bs ≡ 0 → (k : ℕ) (b : Bool) → slice_get bs k ≡ Some b → b ≡ false
no_flag [] e k b at = absurd (cc at)
no_flag (true ∷ bs) e k b at = absurd (let s = sum_by-cons (λ (y : Bool). cond (is_true y) 1 0) true bs in omega (arith, s, e))
no_flag (false ∷ bs) e zero b at = let same : false ≡ b = cc at in sym same
no_flag (false ∷ bs) e (suc k) b at = no_flag bs (let s = sum_by-cons (λ (y : Bool). cond (is_true y) 1 0) false bs in omega (arith, s, e)) k b at

-- none of the kinds of warnings is there
record AreNone (c : Cat) (v : Volume) : Type 0 where
  marks : numbers_from is_marked 1 c.files ≡ []
  named : filter (names_none c) (places c) ≡ []
  seconds : filter (is_second c) (places c) ≡ []
  doubles : filter (has_doubles v) (numbers v) ≡ []
  lost : numbers_from (is_lost_file c) 1 c.files ≡ []
  clusters : c.leaked ≡ 0
  numbers : count_by is_true c.leaked_numbers ≡ 0
  usage : filter (is_miscounted c) c.quota ≡ []

are_none : (v : Volume) → [] ≡ warnings v → AreNone (catalogue v) v
unfolding warnings
are_none v e =
    let c : Cat = catalogue v in
    let r1 = none_right (map finding.Marked (numbers_from is_marked 1 c.files)) _ e in
    let r2 = none_right (map names_none_found (filter (names_none c) (places c))) _ r1 in
    let r3 = none_right (map second_found (filter (is_second c) (places c))) _ r2 in
    let r4 = none_right (map finding.Doubles (filter (has_doubles v) (numbers v))) _ r3 in
    let r5 = none_right (map finding.Lost (numbers_from (is_lost_file c) 1 c.files)) _ r4 in
    let r6 = none_right (map finding.Surplus (filter (has_surplus v) (numbers v))) _ r5 in
    let r7 = none_right (map finding.Stray (filter (is_stray v) (numbers v))) _ r6 in
    let r8 = none_right (if_any finding.LeakedClusters c.leaked) _ r7 in
    let r9 = none_right (if_any finding.LeakedNumbers (count_by is_true c.leaked_numbers)) _ r8 in
    record {
      marks = none_mapped finding.Marked _ (none_left _ _ e);
      named = none_mapped names_none_found _ (none_left _ _ r1);
      seconds = none_mapped second_found _ (none_left _ _ r2);
      doubles = none_mapped finding.Doubles _ (none_left _ _ r3);
      lost = none_mapped finding.Lost _ (none_left _ _ r4);
      clusters = none_if finding.LeakedClusters _ (none_left _ _ r7);
      numbers = none_if finding.LeakedNumbers _ (none_left _ _ r8);
      usage = none_mapped (usage_found c) _ r9;
    }

-- ---- so nothing is left

module _ (c : Cat) (v : Volume) (none : AreNone c v) where
  no_mark : (k : ℕ) (f : File) → slice_get c.files k ≡ Some (Used f) → f.marked ≡ false
  no_mark k f at = none_passes is_marked 1 c.files none.marks k (Used f) at

  place_stays : (p : Place) → Has (places c) p → stays c p ≡ true
  unfolding names_none is_second
  place_stays p has = by_file (in_use c p.entry.fid) refl (none_kept (names_none c) (places c) none.named p has) where
    is_live : (f : File) → f.marked ≡ false → not (is_none (unmarked (Some f))) ≡ true
    is_live f free = ap (λ b. not (is_none (cond b None (Some f)))) free

    only : (a b : Bool) → a ≡ true → a && not b ≡ false → b ≡ true
    only true true t e = refl
    only true false t e = absurd (cc e)
    only false b t e = absurd (cc t)

    by_file : (o : Option File) → in_use c p.entry.fid ≡ o → is_none o ≡ false → stays c p ≡ true
    by_file None e n = absurd (cc n)
    by_file (Some f) e n =
        let at = used_part c p.entry.fid f e in
        let free = no_mark (p.entry.fid.num - 1) f (stands_at c p.entry.fid.num f at) in
        only (not (is_none (live c p.entry.fid))) (stays c p) (ap (λ o. not (is_none (unmarked o))) e ∙ is_live f free) (none_kept (is_second c) (places c) none.seconds p has)

  not_lost : (empty : Bool) (k : ℕ) (s : Slot) → slice_get c.files k ≡ Some s → is_lost_slot c empty (1 + k) s ≡ false
  not_lost empty k (Free q) at = refl
  not_lost empty k (Used f) at = ap (λ b. b && cond empty (is_empty f) (not (is_empty f))) (none_passes (is_lost_file c) 1 c.files none.lost k (Used f) at)

  unmarked_slot : (k : ℕ) (s : Slot) → slice_get c.files k ≡ Some s → IsUnmarked s
  unmarked_slot k (Free q) at = tt
  unmarked_slot k (Used f) at = no_mark k f at

  right : (k : ℕ) (r : QuotaRow) → slice_get c.quota k ≡ Some r → r.usage ≡ charge c r.owner
  right k r at = by_case (r.usage == charge c r.owner) refl (none_kept (is_miscounted c) c.quota none.usage r (has_at c.quota k r at)) where
    by_case : (b : Bool) → (r.usage == charge c r.owner) ≡ b → not b ≡ false → r.usage ≡ charge c r.owner
    by_case true e n = eqb-true r.usage (charge c r.owner) e
    by_case false e n = absurd (cc n)

  module _ (plain : (n : ℕ) (f : File) → file_at c n ≡ Some f → f.dir ≡ false → f.entries ≡ []) where
    each_stays : (n : ℕ) (f : File) (e : DirEnt) → file_at c n ≡ Some f → Has f.entries e → stays c (record { dir = n; entry = e }) ≡ true
    each_stays n f e at has = by_dir (cases_Bool f.dir) where
      by_dir : (f.dir ≡ true) ⊎ (f.dir ≡ false) → stays c (record { dir = n; entry = e }) ≡ true
      by_dir (inl dir) = let p : Place = record { dir = n; entry = e } in place_stays p (in_to c p (record { file = f; at = at; dir = dir; entry = has }))
      by_dir (inr flat) = absurd (subst (λ (es : List DirEnt). Has es e) (plain n f at flat) has)

    none_done : IsDone c
    none_done = record {
      stay = all_stay c each_stays;
      full = empty_of false;
      empty = empty_of true;
      marks = all_from IsUnmarked c.files unmarked_slot;
      clusters = none.clusters;
      numbers = all_from (λ (b : Bool). b ≡ false) c.leaked_numbers (no_flag c.leaked_numbers none.numbers);
      usage = all_from (λ (r : QuotaRow). r.usage ≡ charge c r.owner) c.quota right;
    } where
      empty_of : (empty : Bool) → numbers_from (is_lost_slot c empty) 1 c.files ≡ []
      empty_of empty = no_numbers (is_lost_slot c empty) 1 c.files (not_lost empty)

-- a number of a file is one of the volume's
pub file_number : (g : Geometry) (bs : List Block) (own : Owners) (c : Cat) → Spells g bs own c → (n : ℕ) (f : File) → file_at c n ≡ Some f → IsFileNumber g n
file_number g bs own c s n f at =
    let from = number_rises c n f at in
    let to = slice_get_within c.files (n - 1) (Used f) (stands_at c n f at) in
    let count = s.counts.slots in
    record { from = omega (arith, from); to = omega (arith, from, to, count) }

-- a file that is no directory has no entries
pub plain_bare : (g : Geometry) (bs : List Block) (own : Owners) (c : Cat) → Spells g bs own c → (n : ℕ) (f : File) → file_at c n ≡ Some f → f.dir ≡ false → f.entries ≡ []
plain_bare g bs own c s n f at flat =
    let there = stands_at c n f at in
    let is = file_number g bs own c s n f at in
    let blocks = body_blocks bs n (told_of g bs n) in
    let t = tells_file g.cluster n (told_of g bs n).head blocks f (s.files n (Used f) is there).slot in
    let dir : t.hdr.dir ≡ false = ap (λ (x : File). x.dir) t.is ∙ flat in
    sym (ap (λ (x : File). x.entries) t.is) ∙ ap (λ b. cond b (plain_entries (directory blocks)) []) dir

-- ---- by the home block

-- the directories of a volume that is accepted have no doubles, and nothing is left to mend
record IsClear (c : Cat) (v : Volume) : Type 0 where
  done : IsDone c
  single : (n : ℕ) → Has (numbers v) n → has_doubles v n ≡ false

module _ (g : Geometry) (bs : List Block) (own : Owners) (c : Cat) (s : Spells g bs own c) (t : CatOf bs c) where
  by_home : (r : Result Home HomeFault) → AreWarningsBy bs r [] → IsCatalogueBy bs r c → (home : Home) → r ≡ Ok home → IsClear c (volume home bs)
  by_home (Err fault) w told home e = absurd w
  by_home (Ok h) w told home e =
      let same : h ≡ home = cc e in
      let none : AreNone c (volume home bs) = subst (λ (x : Home). AreNone c (volume x bs)) same (subst (λ (x : Cat). AreNone x (volume h bs)) (sym told) (are_none (volume h bs) w)) in
      record {
        done = none_done c (volume home bs) none (plain_bare g bs own c s);
        single = none_kept (has_doubles (volume home bs)) (numbers (volume home bs)) none.doubles;
      }

  pub clear : Accepts bs → (home : Home) → home_read (home_at bs) ≡ Ok home → IsDone c × ((n : ℕ) → Has (numbers (volume home bs)) n → has_doubles (volume home bs) n ≡ false)
  clear accepts home e = by_case accepts where
    by_case : ((f : Finding) × IsFirstFatal bs f × ([] ≡ f ∷ [])) ⊎ (Weak bs × AreWarningsBy bs (home_read (home_at bs)) []) → IsDone c × ((n : ℕ) → Has (numbers (volume home bs)) n → has_doubles (volume home bs) n ≡ false)
    by_case (inl k) = absurd (cc (k.2))
    by_case (inr k) = let r = by_home (home_read (home_at bs)) k.1 t.told home e in (r.done, r.single)
