-- The catalogue of an accepted volume is tidy, and its usages are what the files cost.
use Rattle.std.proofs.Common.{◌≡◌, ◌==◌, ◌&&◌, ◌-◌, ◌+◌, ◌<◌, ◌∙◌, ℕ, Bool, true, false, cond, not, List, [], ◌∷◌, Option, Some, None, Ok, Err, Result, map, refl, sym, ap, subst, arith}
use Rattle.std.specs.Prelude.{All, filter, is_none}
use Rattle.std.proofs.lemmas.Bool.{and_from}
use Rattle.std.proofs.lemmas.Bool.Decides.{nat_tests}
use Rattle.std.proofs.lemmas.List.Elements.{All-cons}
use Rattle.base_words.specs.Fields.{Block}
use Rattle.base_words.specs.Lists.{Has}
use Rattle.base_words.proofs.Listing.{has_passed, none_left, none_right}
use Rattle.fx_home.specs.declared.home.Home.{Home}
use Rattle.fx_home.specs.declared.home.HomeFault.{HomeFault}
use Rattle.fx_header.specs.declared.slot.HeaderFault.{HeaderFault}
use Rattle.plain_cat.specs.declared.entries.DirEnt.{DirEnt}
use Rattle.plain_cat.specs.declared.cat.Cat.{Cat}
use Rattle.plain_cat.specs.declared.cat.File.{File}
use Rattle.plain_cat.specs.declared.cat.Slot.{Slot}
use Rattle.plain_cat.specs.declared.cat.Slot.TheVariants.{Used}
use Rattle.plain_cat.specs.declared.cat.QuotaRow.{QuotaRow}
use Rattle.plain_rules.specs.declared.places.Place.{Place}
use Rattle.plain_rules.specs.Lookups.{file_at, in_use, live, unmarked}
use Rattle.plain_rules.specs.Accounts.{charge}
use Rattle.plain_rules.specs.Mending.{places, stays, is_named, numbers_from}
use Rattle.plain_rules.proofs.Standing.{stands_at}
use Rattle.plain_laws.proofs.Standing.{number_rises}
use Rattle.plain_laws.proofs.Places.{in_to}
use Rattle.plain_laws.proofs.Steps.{number_has}
use Rattle.plain_mends.specs.Resuming.{AreKeyed}
use Rattle.plain_mends.specs.Sound.{IsSound}
use Rattle.plain_mends.proofs.Standing.{all_stay}
use Rattle.plain_mends.proofs.SoundAnswers.{used_part}
use Rattle.plain_mends.proofs.SoundSteps.{if_listed}
use Rattle.plain_tidy.specs.Tidy.{IsTidy}
use Rattle.plain_tidy.proofs.Finishing.{keyed_places}
use Rattle.vol_parts.specs.declared.finding.Finding.{Finding}
use Rattle.vol_parts.specs.declared.finding.Finding.TheVariants as finding
use Rattle.vol_parts.specs.Volumes.{Volume, volume, numbers, factor, first_head, body}
use Rattle.fx_header.specs.declared.slot.Slot.{Slot as Head}
use Rattle.fx_header.specs.declared.slot.Slot.TheVariants as head
use Rattle.fx_home.specs.Homes.{home_read}
use Rattle.vol_parts.specs.Catalogues.{catalogue, file_of, slot_with, slot_of, files_of}
use Rattle.vol_parts.specs.Findings.{Accepts, CatOf, IsCatalogueBy, home_at}
use Rattle.vol_parts.specs.Warnings.{is_marked, names_none, is_second, names_none_found, second_found, has_doubles, is_lost_file, is_miscounted, warnings}
use Rattle.vol_analyze.proofs.Accepting.{none_miscounted, no_warnings, mapped_range}
use Rattle.vol_mends.proofs.AcceptedSteps.{weak_can_mend, accepted_is_sound}

none_mapped : {A B : Type 0} (f : A → B) (xs : List A) → [] ≡ map f xs → xs ≡ []
none_mapped f [] e = refl
none_mapped {A} {B} f (x ∷ xs) e = absurd (let g : [] ≡ f x ∷ map f xs = e in cc g)

-- what is left to say of a catalogue without warnings
record Quiet (c : Cat) : Type 0 where
  marked : numbers_from is_marked 1 c.files ≡ []
  nameless : filter (names_none c) (places c) ≡ []
  second : filter (is_second c) (places c) ≡ []
  lost : numbers_from (is_lost_file c) 1 c.files ≡ []
  counted : filter (is_miscounted c) c.quota ≡ []

quiet : (v : Volume) → [] ≡ warnings v → Quiet (catalogue v)
unfolding warnings
quiet v e =
    let c : Cat = catalogue v in
    let seconds : List Finding = map second_found (filter (is_second c) (places c)) in
    let nameless : List Finding = map names_none_found (filter (names_none c) (places c)) in
    let marked : List Finding = map finding.Marked (numbers_from is_marked 1 c.files) in
    let doubles : List Finding = map finding.Doubles (filter (has_doubles v) (numbers v)) in
    let lost : List Finding = map finding.Lost (numbers_from (is_lost_file c) 1 c.files) in
    let one = none_right marked _ e in
    let two = none_right nameless _ one in
    let three = none_right seconds _ two in
    let four = none_right doubles _ three in
    record {
      marked = none_mapped finding.Marked (numbers_from is_marked 1 c.files) (none_left marked _ e);
      nameless = none_mapped names_none_found (filter (names_none c) (places c)) (none_left nameless _ one);
      second = none_mapped second_found (filter (is_second c) (places c)) (none_left seconds _ two);
      lost = none_mapped finding.Lost (numbers_from (is_lost_file c) 1 c.files) (none_left lost _ four);
      counted = none_miscounted v e;
    }

-- an item that passes is in what is left of a list
passed_none : (p : Place → Bool) (xs : List Place) (x : Place) → filter p xs ≡ [] → Has xs x → (b : Bool) → p x ≡ b → b ≡ false
passed_none p xs x none has false is = refl
passed_none p xs x none has true is = absurd (subst (λ (ys : List Place). Has ys x) none (has_passed p xs x has is))

numbered_none : (c : Cat) (p : ℕ → Slot → Bool) → numbers_from p 1 c.files ≡ [] → (n : ℕ) (f : File) → file_at c n ≡ Some f → (b : Bool) → p n (Used f) ≡ b → b ≡ false
numbered_none c p none n f at false is = refl
numbered_none c p none n f at true is =
    let rises : 0 < n = number_rises c n f at in
    let same : 1 + (n - 1) ≡ n = omega (arith, rises) in
    absurd (subst (λ (ks : List ℕ). Has ks (1 + (n - 1))) none (number_has p 1 c.files (n - 1) (Used f) (stands_at c n f at) (ap (λ k. p k (Used f)) same ∙ is)))

-- only directories have entries
slot_dir : (k n : ℕ) (r : Result Head HeaderFault) (blocks : List Block) (f : File) (e : DirEnt) → slot_with k n r blocks ≡ Used f → Has f.entries e → f.dir ≡ true
slot_dir k n (Ok (head.Used h)) blocks f e is has =
    let same : file_of k n h blocks ≡ f = cc is in
    ap (λ (x : File). x.dir) (sym same) ∙ (if_listed h.dir _ e (subst (λ (x : File). Has x.entries e) (sym same) has)).0
slot_dir k n (Ok (head.Free q)) blocks f e is has = absurd (cc is)
slot_dir k n (Err fault) blocks f e is has = absurd (cc is)

placed : (v : Volume) (n : ℕ) (f : File) (e : DirEnt) → file_at (catalogue v) n ≡ Some f → Has f.entries e → f.dir ≡ true
unfolding catalogue files_of slot_of
placed v n f e at has =
    let r = mapped_range (slot_of v) 1 v.home.files (n - 1) (Used f) (stands_at (catalogue v) n f at) in
    slot_dir (factor v) (1 + (n - 1)) (first_head v (1 + (n - 1))) (body v (1 + (n - 1))) f e (sym r.0) has

-- an entry of a live file that is not second stays
stays_by : (c : Cat) (p : Place) → (names_none c p ≡ false) → (is_second c p ≡ false) → ((f : File) → file_at c p.entry.fid.num ≡ Some f → f.marked ≡ false) → stays c p ≡ true
unfolding names_none is_second
stays_by c p some first free = by_use (in_use c p.entry.fid) refl some where
  unmarked_is : (f : File) → in_use c p.entry.fid ≡ Some f → is_none (live c p.entry.fid) ≡ false
  unmarked_is f at = ap (λ o. is_none (unmarked o)) at ∙ ap (λ b. is_none (cond b None (Some f))) (free f (used_at f at))
    where
      used_at : (f : File) → in_use c p.entry.fid ≡ Some f → file_at c p.entry.fid.num ≡ Some f
      used_at f at = used_part c p.entry.fid f at

  first_is : (b s : Bool) → b ≡ false → not b && not s ≡ false → s ≡ true
  first_is false true e h = refl
  first_is false false e h = absurd (cc h)
  first_is true s e h = absurd (cc e)

  by_use : (o : Option File) → in_use c p.entry.fid ≡ o → is_none o ≡ false → stays c p ≡ true
  by_use None at h = absurd (cc h)
  by_use (Some f) at h = first_is (is_none (live c p.entry.fid)) (stays c p) (unmarked_is f at) first

exact_rows : (c : Cat) (rows : List QuotaRow) → filter (is_miscounted c) rows ≡ [] → All (λ (r : QuotaRow). r.usage ≡ charge c r.owner) rows
exact_rows c [] e = λ i d lt. absurd (omega arith)
exact_rows c (r ∷ rs) e = by_test (is_miscounted c r) refl e (λ k. exact_rows c rs k) where
  is_charge : (a b : ℕ) → not (a == b) ≡ false → a ≡ b
  is_charge a b e = grind (arith, nat_tests)

  by_test : (b : Bool) → is_miscounted c r ≡ b → cond b (r ∷ filter (is_miscounted c) rs) (filter (is_miscounted c) rs) ≡ []
      → (filter (is_miscounted c) rs ≡ [] → All (λ (x : QuotaRow). x.usage ≡ charge c x.owner) rs) → All (λ (x : QuotaRow). x.usage ≡ charge c x.owner) (r ∷ rs)
  by_test true f e rest = absurd (let g : r ∷ filter (is_miscounted c) rs ≡ [] = e in cc g)
  by_test false f e rest = All-cons (λ (x : QuotaRow). x.usage ≡ charge c x.owner) r rs (is_charge r.usage (charge c r.owner) f) (rest e)

-- a tidy catalogue whose usages are what the files cost
tidy_volume : (v : Volume) → IsSound (catalogue v) → AreKeyed (catalogue v) → [] ≡ warnings v → IsTidy (catalogue v) × All (λ (r : QuotaRow). r.usage ≡ charge (catalogue v) r.owner) (catalogue v).quota
tidy_volume v sound keyed none = (
  record {
    sound = sound;
    stay = all_stay c (λ n f e at has. stays_in (record { dir = n; entry = e }) (in_to c (record { dir = n; entry = e }) (record { file = f; at = at; dir = placed v n f e at has; entry = has })));
    keyed = keyed_places c keyed;
    named = λ n f at free. named n f at free (is_named c (record { num = n; seq = f.seq })) refl;
  },
  exact_rows c c.quota q.counted,
) where
  c : Cat
  c = catalogue v

  q : Quiet (catalogue v)
  q = quiet v none

  free_at : (n : ℕ) (f : File) → file_at (catalogue v) n ≡ Some f → f.marked ≡ false
  free_at n f at = numbered_none (catalogue v) is_marked q.marked n f at f.marked refl

  stays_in : (p : Place) → Has (places (catalogue v)) p → stays (catalogue v) p ≡ true
  stays_in p has = stays_by (catalogue v) p
      (passed_none (names_none (catalogue v)) (places (catalogue v)) p q.nameless has (names_none (catalogue v) p) refl)
      (passed_none (is_second (catalogue v)) (places (catalogue v)) p q.second has (is_second (catalogue v) p) refl) (λ f at. free_at p.entry.fid.num f at)

  named : (n : ℕ) (f : File) → file_at (catalogue v) n ≡ Some f → f.marked ≡ false → (b : Bool) → is_named (catalogue v) (record { num = n; seq = f.seq }) ≡ b → b ≡ true
  named n f at free true is = refl
  named n f at free false is =
      let passes : is_lost_file (catalogue v) n (Used f) ≡ true = and_from (not f.marked) (not (is_named (catalogue v) (record { num = n; seq = f.seq }))) (ap not free) (ap not is) in
      let both : true ≡ false = sym passes ∙ numbered_none (catalogue v) (is_lost_file (catalogue v)) q.lost n f at (is_lost_file (catalogue v) n (Used f)) refl in
      absurd (cc both)

pub accepted_tidy : (bs : List Block) (c : Cat) → Accepts bs → CatOf bs c → IsTidy c × All (λ (r : QuotaRow). r.usage ≡ charge c r.owner) c.quota
accepted_tidy bs c accepts told = by_home (home_read (home_at bs)) refl told.told where
  by_home : (r : Result Home HomeFault) → home_read (home_at bs) ≡ r → IsCatalogueBy bs r c → IsTidy c × All (λ (r : QuotaRow). r.usage ≡ charge c r.owner) c.quota
  by_home (Err fault) e is = absurd is
  by_home (Ok home) e is =
      let sound = accepted_is_sound bs c accepts told in
      let keyed = (weak_can_mend bs c told).1 in
      subst (λ (x : Cat). IsTidy x × All (λ (r : QuotaRow). r.usage ≡ charge x r.owner) x.quota) (sym is)
      (tidy_volume (volume home bs) (subst (λ (x : Cat). IsSound x) is sound) (subst (λ (x : Cat). AreKeyed x) is keyed) (no_warnings bs home accepts e))
