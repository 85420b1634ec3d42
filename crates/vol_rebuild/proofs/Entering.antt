-- The lost files that are entered, one after another.
use Rattle.std.proofs.Common.{◌≡◌, ◌-◌, ◌+◌, ◌∙◌, ◌++◌, ℕ, zero, suc, Bool, true, false, cond, List, [], ◌∷◌, Option, Some, None, length, map, replicate, slice_get, slice_set, refl, sym, ap, arith}
use Rattle.std.specs.Prelude.{option_map, option_and_then}
use Rattle.std.proofs.lemmas.List.{length-map, length-append}
use Rattle.plain_cat.specs.declared.entries.DirEnt.{DirEnt}
use Rattle.plain_cat.specs.declared.cat.Cat.{Cat}
use Rattle.plain_cat.specs.declared.cat.Slot.{Slot}
use Rattle.plain_cat.specs.declared.cat.Slot.TheVariants.{Used}
use Rattle.plain_cat.specs.declared.cat.Open.{Open}
use Rattle.plain_rules.specs.declared.places.Place.{Place}
use Rattle.plain_rules.specs.Directories.{before, inserted}
use Rattle.plain_rules.specs.Mending.{entries_in, places_from, places, without_opens, stripped, lost, enter, enter_all, enter_some, with_lost, mended, mended_from}
use Rattle.plain_rules.proofs.Standing.{stands_at}
use Rattle.plain_mends.specs.Resuming.{AllStay, MendsTo}
use Rattle.plain_mends.specs.Waiting.{Settled}
use Rattle.plain_mends.proofs.FullSteps.{shape_by}
use Rattle.vol_rebuild.specs.Steps.{used_count}
use Rattle.vol_rebuild.proofs.Counting.{used_still}

-- ---- one entry more

longer : (e : DirEnt) (es : List DirEnt) → length (inserted e es) ≡ suc (length es)
longer e [] = refl
longer e (x ∷ xs) = by_case (before e x) (longer e xs) where
  by_case : (b : Bool) → length (inserted e xs) ≡ suc (length xs) → length (cond b (e ∷ x ∷ xs) (x ∷ inserted e xs)) ≡ suc (length (x ∷ xs))
  by_case true ih = refl
  by_case false ih = ap suc ih

placed_count : (m : ℕ) (es : List DirEnt) (ps : List Place) → length (map (λ (e : DirEnt). record { dir = m; entry = e }) es ++ ps) ≡ length es + length ps
placed_count m es ps = length-append (map (λ (e : DirEnt). record { dir = m; entry = e }) es) ps ∙ ap (λ k. k + length ps) (length-map es (λ (e : DirEnt). record { dir = m; entry = e }))

places_more : (m : ℕ) (ss : List Slot) (i : ℕ) (s v : Slot) → slice_get ss i ≡ Some s → length (entries_in v) ≡ suc (length (entries_in s)) → length (places_from m (slice_set ss i v)) ≡ length (places_from m ss) + 1
places_more m [] i s v at h = absurd (cc at)
places_more m (t ∷ ss) zero s v at h =
    let same : t ≡ s = cc at in
    let here : length (entries_in t) ≡ length (entries_in s) = ap (λ (x : Slot). length (entries_in x)) same in
    let a = placed_count m (entries_in v) (places_from (m + 1) ss) in
    let b = placed_count m (entries_in t) (places_from (m + 1) ss) in
    omega (arith, a, b, h, here)
places_more m (t ∷ ss) (suc i) s v at h =
    let ih = places_more (m + 1) ss i s v at h in
    let a = placed_count m (entries_in t) (places_from (m + 1) (slice_set ss i v)) in
    let b = placed_count m (entries_in t) (places_from (m + 1) ss) in
    omega (arith, a, b, ih)

-- an entry that is entered is one more
pub entered_more : (c y : Cat) (n : ℕ) → Settled c → enter c n ≡ Some y → length (places y) ≡ length (places c) + 1
entered_more c y n settled e =
    let s = shape_by c n y e in
    let dir : s.dir.dir ≡ true = (settled.names.lost s.dir s.dir_at).directory in
    let more : length (cond s.dir.dir (inserted s.entry s.dir.entries) []) ≡ suc (length (cond s.dir.dir s.dir.entries [])) =
    ap (λ b. length (cond b (inserted s.entry s.dir.entries) [])) dir ∙ (longer s.entry s.dir.entries ∙ sym (ap (λ b. suc (length (cond b s.dir.entries []))) dir)) in
    ap (λ (z : Cat). length (places z)) s.is
    ∙ places_more 1 c.files (11 - 1) (Used s.dir) (Used (record s.dir { entries = inserted s.entry s.dir.entries })) (stands_at c 11 s.dir s.dir_at) more

pub entered_files : (c y : Cat) (n : ℕ) → enter c n ≡ Some y → used_count y ≡ used_count c
entered_files c y n e =
    let s = shape_by c n y e in
    ap (λ (z : Cat). used_count z) s.is ∙ used_still c.files (11 - 1) s.dir (record s.dir { entries = inserted s.entry s.dir.entries }) (stands_at c 11 s.dir s.dir_at)

pub entered_count : (c y : Cat) (n : ℕ) → enter c n ≡ Some y → length y.opens ≡ length c.opens
entered_count c y n e = ap (λ (z : Cat). length z.opens) (shape_by c n y e).is

pub entered_opens : (c y : Cat) (n : ℕ) → enter c n ≡ Some y → y.opens ≡ c.opens
entered_opens c y n e = ap (λ (z : Cat). z.opens) (shape_by c n y e).is

-- ---- nothing is open

abbrev closed : Option Open → Option Open
closed o = None

abbrev all_closed : ℕ → List (Option Open)
all_closed k = replicate k None

closed_again : (k : ℕ) → map closed (all_closed k) ≡ all_closed k
closed_again zero = refl
closed_again (suc k) = ap (λ (os : List (Option Open)). None ∷ os) (closed_again k)

pub shut_is : (c : Cat) → c.opens ≡ replicate 64 None → without_opens c ≡ c
shut_is c e = ap (λ (os : List (Option Open)). record c { opens = os }) (ap (map closed) e ∙ (closed_again 64 ∙ sym e))

-- ---- all that are not empty find room

none_after : (c : Cat) (n : ℕ) (ns : List ℕ) → enter c n ≡ None → enter_all (n ∷ ns) c ≡ None
none_after c n ns e = ap (option_and_then (enter_all ns)) e

mended_none : (c a : Cat) → a ≡ stripped c → with_lost a ≡ None → mended c ≡ None
unfolding mended
mended_none c a is e = ap (λ (x : Cat). mended_from c x (with_lost x)) (sym is) ∙ ap (mended_from c a) e

pub finds_room : (c z : Cat) (n : ℕ) (ns : List ℕ) → AllStay c → c.opens ≡ replicate 64 None → lost c false ≡ n ∷ ns → MendsTo c z → (y : Cat) × (enter c n ≡ Some y)
finds_room c z n ns stay shut waits ends = by_room (enter c n) refl where
  by_room : (o : Option Cat) → enter c n ≡ o → (y : Cat) × (enter c n ≡ Some y)
  by_room (Some y) e = (y, e)
  by_room None e =
      let is : c ≡ stripped c = sym (stay ∙ shut_is c shut) in
      let lacks : with_lost c ≡ None = ap (option_map (enter_some (lost c true))) (ap (λ ks. enter_all ks c) waits ∙ none_after c n ns e) in
      let both : Some (z, ends.0) ≡ None = sym ends.1 ∙ mended_none c c is lacks in
      absurd (cc both)
