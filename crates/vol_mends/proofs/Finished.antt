-- Blocks of which nothing is left to mend.
use Rattle.std.proofs.Common.{◌≡◌, ◌∙◌, ◌+◌, ◌++◌, ℕ, zero, suc, Bool, true, false, cond, not, List, [], ◌∷◌, Option, Some, None, Ok, Err, Result, map, filter, slice_get, replicate, refl, sym, ap, subst, arith, inr}
use Rattle.std.specs.Prelude.{◌&&◌, is_none, count_by}
use Rattle.std.proofs.lemmas.Bool.{eq-eqb, and_parts}
use Rattle.base_words.specs.Fields.{Block}
use Rattle.fx_home.specs.declared.home.Home.{Home}
use Rattle.fx_home.specs.declared.home.HomeFault.{HomeFault}
use Rattle.fx_home.specs.Homes.{home_read}
use Rattle.plain_cat.specs.declared.cat.Cat.{Cat}
use Rattle.plain_cat.specs.declared.cat.File.{File}
use Rattle.plain_cat.specs.declared.cat.Open.{Open}
use Rattle.plain_cat.specs.declared.cat.Slot.{Slot}
use Rattle.plain_cat.specs.declared.cat.Slot.TheVariants.{Used, Free}
use Rattle.plain_cat.specs.declared.cat.QuotaRow.{QuotaRow}
use Rattle.plain_cat.specs.declared.history.Mended.{Mended}
use Rattle.plain_rules.specs.declared.places.Place.{Place}
use Rattle.plain_rules.specs.Lookups.{in_use, live, unmarked}
use Rattle.plain_rules.specs.Accounts.{charge}
use Rattle.plain_rules.specs.Mending.{places, stays, is_lost, is_lost_slot, is_empty, is_true, without_opens, mended}
use Rattle.plain_laws.specs.Clearing.{IsUnmarked, nothing_done}
use Rattle.plain_mends.specs.Resuming.{MendsTo}
use Rattle.plain_mends.specs.Waiting.{IsDone}
use Rattle.vol_spell.proofs.Placing.{has_ranged}
use Rattle.base_words.proofs.Listing.{has_at, all_at}
use Rattle.vol_parts.specs.declared.finding.Finding.TheVariants as finding
use Rattle.vol_parts.specs.declared.geometry.Geometry.{Geometry}
use Rattle.vol_parts.specs.Volumes.{Volume, volume, numbers}
use Rattle.vol_parts.specs.Catalogues.{catalogue}
use Rattle.vol_parts.specs.Warnings.{is_marked, names_none, is_second, names_none_found, second_found, has_doubles, has_surplus, is_stray, is_lost_file, if_any, is_miscounted, usage_found, warnings}
use Rattle.vol_parts.specs.Findings.{home_at, Accepts, AreWarningsBy, IsCatalogueBy}
use Rattle.vol_spell.specs.Reading.{IsFileNumber}
use Rattle.vol_mends.proofs.AcceptedSteps.{told_shut}
use Rattle.plain_mends.proofs.DoneSteps.{done_mends}
use Rattle.plain_mends.proofs.Numbers.{no_numbers, none_passes}
use Rattle.plain_mends.proofs.Standing.{stays_each}
use Rattle.plain_laws.proofs.Places.{in_from}
use Rattle.vol_mends.specs.Told.{IsTold, IsSingle}
use Rattle.vol_mends.specs.Clean.{IsClean}
use Rattle.vol_mends.specs.Done.{DoneIsAccepted}
use Rattle.vol_mends.proofs.NoTails.{no_surplus, no_stray}
use Rattle.vol_mends.proofs.Basics.{and_no, stands}
use Rattle.vol_mends.proofs.WriteTold.{Owned, owned, one_cat, home_told}
use Rattle.vol_mends.proofs.Turned.{count_none}
use Rattle.vol_mends.proofs.OneWrite.{doubles_told}

-- ---- lists of which nothing passes

none_joined : {A : Type 0} (xs ys : List A) → xs ≡ [] → ys ≡ [] → xs ++ ys ≡ []
none_joined xs ys e f = ap (λ zs. zs ++ ys) e ∙ f

none_mapped : {A B : Type 0} (f : A → B) (xs : List A) → xs ≡ [] → map f xs ≡ []
none_mapped f xs e = ap (map f) e

none_kept : {A : Type 0} (p : A → Bool) (xs : List A) → ((k : ℕ) (x : A) → slice_get xs k ≡ Some x → p x ≡ false) → filter p xs ≡ []
none_kept p [] never = refl
none_kept p (x ∷ xs) never = ap (λ b. cond b (x ∷ filter p xs) (filter p xs)) (never 0 x refl) ∙ none_kept p xs (λ k y at. never (suc k) y at)

-- ---- nothing is found

module _ (c : Cat) (done : IsDone c) where
  each_stays : (k : ℕ) (p : Place) → slice_get (places c) k ≡ Some p → stays c p ≡ true
  each_stays k p at = let i = in_from c p (stands (places c) k p at) in stays_each c done.stay p.dir i.file p.entry i.at i.entry

  some_named : (k : ℕ) (p : Place) → slice_get (places c) k ≡ Some p → names_none c p ≡ false
  unfolding stays names_none
  some_named k p at =
      by (in_use c p.entry.fid) (and_parts (not (is_none (unmarked (in_use c p.entry.fid)))) _ (each_stays k p at)).0
    where
      by : (o : Option File) → not (is_none (unmarked o)) ≡ true → is_none o ≡ false
      by None h = absurd (cc h)
      by (Some f) h = refl

  none_second : (k : ℕ) (p : Place) → slice_get (places c) k ≡ Some p → is_second c p ≡ false
  unfolding is_second
  none_second k p at = ap (λ b. not (is_none (live c p.entry.fid)) && not b) (each_stays k p at) ∙ and_no (not (is_none (live c p.entry.fid)))

  unmarked_slot : (n : ℕ) (s : Slot) → IsUnmarked s → is_marked n s ≡ false
  unmarked_slot n (Free seq) h = refl
  unmarked_slot n (Used f) h = h

  no_mark : (k : ℕ) (s : Slot) → slice_get c.files k ≡ Some s → is_marked (1 + k) s ≡ false
  no_mark k s at = unmarked_slot (1 + k) s (all_at IsUnmarked c.files done.marks k s at)

  not_lost : (n : ℕ) (s : Slot) → is_lost_slot c false n s ≡ false → is_lost_slot c true n s ≡ false → is_lost_file c n s ≡ false
  not_lost n (Free seq) a b = refl
  not_lost n (Used f) a b = by (is_lost c n f) (is_empty f) a b where
    by : (x y : Bool) → x && not y ≡ false → x && y ≡ false → x ≡ false
    by false y a b = refl
    by true true a b = absurd (cc b)
    by true false a b = absurd (cc a)

  none_lost : (k : ℕ) (s : Slot) → slice_get c.files k ≡ Some s → is_lost_file c (1 + k) s ≡ false
  none_lost k s at =
      not_lost (1 + k) s (none_passes (is_lost_slot c false) 1 c.files done.full k s at) (none_passes (is_lost_slot c true) 1 c.files done.empty k s at)

  right_usage : (k : ℕ) (r : QuotaRow) → slice_get c.quota k ≡ Some r → is_miscounted c r ≡ false
  right_usage k r at = ap not (eq-eqb r.usage (charge c r.owner) (all_at (λ (x : QuotaRow). x.usage ≡ charge c x.owner) c.quota done.usage k r at))

  no_flags : count_by is_true c.leaked_numbers ≡ 0
  no_flags = count_none is_true c.leaked_numbers (λ k b at. all_at (λ (x : Bool). x ≡ false) c.leaked_numbers done.numbers k b at)

nothing_found : (v : Volume) → IsDone (catalogue v) → ((k n : ℕ) → slice_get (numbers v) k ≡ Some n → has_doubles v n ≡ false)
    → ((k n : ℕ) → slice_get (numbers v) k ≡ Some n → has_surplus v n ≡ false) → ((k n : ℕ) → slice_get (numbers v) k ≡ Some n → is_stray v n ≡ false) → warnings v ≡ []
unfolding warnings
nothing_found v done single whole placed =
    none_joined _ _ (none_mapped finding.Marked _ (no_numbers is_marked 1 (catalogue v).files (no_mark (catalogue v) done)))
    (none_joined _ _ (none_mapped names_none_found _ (none_kept (names_none (catalogue v)) (places (catalogue v)) (some_named (catalogue v) done)))
    (none_joined _ _ (none_mapped second_found _ (none_kept (is_second (catalogue v)) (places (catalogue v)) (none_second (catalogue v) done)))
    (none_joined _ _ (none_mapped finding.Doubles _ (none_kept (has_doubles v) (numbers v) single))
    (none_joined _ _ (none_mapped finding.Lost _ (no_numbers (is_lost_file (catalogue v)) 1 (catalogue v).files (none_lost (catalogue v) done)))
    (none_joined _ _ (none_mapped finding.Surplus _ (none_kept (has_surplus v) (numbers v) whole))
    (none_joined _ _ (none_mapped finding.Stray _ (none_kept (is_stray v) (numbers v) placed))
    (none_joined _ _ (ap (if_any finding.LeakedClusters) done.clusters)
    (none_joined _ _ (ap (if_any finding.LeakedNumbers) (no_flags (catalogue v) done))
    (none_mapped (usage_found (catalogue v)) _ (none_kept (is_miscounted (catalogue v)) (catalogue v).quota (right_usage (catalogue v) done)))))))))))

-- ---- the volume is accepted

abbrev cat_in : Cat → Option (Cat × Mended) → Cat
cat_in z None = z
cat_in z (Some p) = p.0

module _ (g : Geometry) (bs : List Block) (c : Cat) (t : IsTold g bs c) (done : IsDone c) where
  abbrev o : Owned g bs c
  o = owned g bs c t

  abbrev closed : Option Open → Option Open
  closed x = None

  nobody : (n : ℕ) → map closed (replicate n (closed None)) ≡ replicate n (closed None)
  nobody zero = refl
  nobody (suc n) = ap (λ (os : List (Option Open)). closed None ∷ os) (nobody n)

  shut : without_opens c ≡ c
  shut = let e = told_shut bs c t.cat in ap (λ (os : List (Option Open)). record c { opens = os }) (ap (map closed) e ∙ (nobody 64 ∙ sym e))

  still : mended c ≡ Some (c, nothing_done)
  still = done_mends c done ∙ ap (λ (x : Cat). Some (x, nothing_done)) shut

  ends_here : (z : Cat) → MendsTo c z → z ≡ c
  ends_here z m = let both : Some (z, m.0) ≡ Some (c, nothing_done) = sym m.1 ∙ still in ap (cat_in z) both

  accepted : IsClean g bs → ((n : ℕ) → IsFileNumber g n → IsSingle g bs n) → Accepts bs
  accepted clean single = inr (t.cat.weak, by (home_read (home_at bs)) refl t.cat.told) where
    by : (r : Result Home HomeFault) → home_read (home_at bs) ≡ r → IsCatalogueBy bs r c → AreWarningsBy bs r []
    by (Err fault) e told = absurd told
    by (Ok home) e told = sym (nothing_found (volume home bs) (subst IsDone told done) each whole placed) where
      home_is : home ≡ record { cluster = g.cluster; files = g.files; label = home.label }
      home_is = home_told g bs o.own c o.spells home e

      file_number : (k n : ℕ) → slice_get (numbers (volume home bs)) k ≡ Some n → IsFileNumber g n
      file_number k n at =
          let held = has_at (numbers (volume home bs)) k n at in
          let r = has_ranged 1 home.files n held in
          let files : home.files ≡ g.files = ap (λ (h : Home). h.files) home_is in
          let from = r.0 in
          let to = r.1 in
          record { from = from; to = omega (arith, to, files) }

      whole : (k n : ℕ) → slice_get (numbers (volume home bs)) k ≡ Some n → has_surplus (volume home bs) n ≡ false
      whole k n at = ap (λ (h : Home). has_surplus (volume h bs) n) home_is ∙ no_surplus home.label g bs o.own c o.spells clean n (file_number k n at)

      placed : (k n : ℕ) → slice_get (numbers (volume home bs)) k ≡ Some n → is_stray (volume home bs) n ≡ false
      placed k n at = ap (λ (h : Home). is_stray (volume h bs) n) home_is ∙ no_stray home.label g bs o.own c o.spells clean n (file_number k n at)

      each : (k n : ℕ) → slice_get (numbers (volume home bs)) k ≡ Some n → has_doubles (volume home bs) n ≡ false
      each k n at =
          let is = file_number k n at in
          ap (λ (h : Home). has_doubles (volume h bs) n) home_is
          ∙ (doubles_told home.label g bs o.own c o.spells n is ∙ (sym (doubles_told [] g bs o.own c o.spells n is) ∙ single n is))

pub done_is_accepted : DoneIsAccepted
done_is_accepted = record {
  still = still;
  ends = λ g bs c z t done m. ends_here g bs c t done z (subst (λ (x : Cat). MendsTo x z) (one_cat bs m.cat c m.told t.cat) m.ends);
  accepted = λ g bs c t done clean single. accepted g bs c t done clean single;
}
