-- The entries of blocks that spell a catalogue, and what is left where those go that a test names.
use Rattle.std.proofs.Common.{◌≡◌, ◌≤◌, ◌<◌, ◌+◌, ◌-◌, ◌∙◌, ◌⊎◌, inl, inr, zero, suc, ℕ, Bool, true, false, cond, not, List, [], ◌∷◌, Some, length, map, drop, get_or, slice_get, refl, sym, ap, subst, arith, drop-cons}
use Rattle.std.specs.Prelude.{◌==◌, ◌&&◌, ◌||◌, filter}
use Rattle.std.proofs.lemmas.Bool.{cases_Bool}
use Rattle.std.proofs.lemmas.Option.{slice_get_within}
use Rattle.base_words.specs.Fields.{Block}
use Rattle.fx_dir.specs.Directory.{directory}
use Rattle.plain_cat.specs.declared.entries.DirEnt.{DirEnt}
use Rattle.plain_cat.specs.declared.cat.Cat.{Cat}
use Rattle.plain_cat.specs.declared.cat.File.{File}
use Rattle.plain_cat.specs.declared.cat.Slot.{Slot}
use Rattle.plain_cat.specs.declared.cat.Slot.TheVariants.{Used}
use Rattle.plain_rules.specs.declared.places.Place.{Place}
use Rattle.plain_rules.specs.Lookups.{file_at}
use Rattle.plain_rules.specs.Mending.{places, entries_in, same_place}
use Rattle.plain_rules.specs.SystemFiles.{is_system_entry}
use Rattle.plain_laws.proofs.Standing.{file_from}
use Rattle.plain_laws.proofs.Places.{in_to, same_place-refl}
use Rattle.plain_rules.proofs.Standing.{stands_at}
use Rattle.base_words.specs.Lists.{Has}
use Rattle.base_words.proofs.Listing.{filter_all, has_filtered, has_passed, any_has, has_any}
use Rattle.vol_parts.specs.declared.finding.Finding.{Finding}
use Rattle.vol_parts.specs.declared.finding.Finding.TheVariants.{DirLoop}
use Rattle.vol_parts.specs.declared.geometry.Geometry.{Geometry}
use Rattle.vol_parts.specs.Findings.{rank}
use Rattle.vol_faults.specs.CatFindings.{IsFatalOf}
use Rattle.vol_parts.specs.Catalogues.{plain_entries}
use Rattle.vol_spell.specs.Owners.{Owners}
use Rattle.vol_spell.specs.Reading.{IsFileNumber, told_of, body_blocks}
use Rattle.vol_spell.specs.Spelling.{Spells}
use Rattle.vol_mends.proofs.Singles.{placed, Single, single_one, single_slot, single_slots}
use Rattle.vol_mends.proofs.Moved.{file_number}
use Rattle.vol_mends.proofs.Tests.{tells_file}
use Rattle.vol_sound.specs.Begun.{with_each, names_main, main_without, without_own, names_dir, loop_without, without_loops}
use Rattle.vol_sound.specs.Leading.{leads_back}
use Rattle.vol_sound.proofs.LeadingBack.{loops_are_found}
use Rattle.vol_repair.specs.declared.removing.Leaver.{Leaver}
use Rattle.vol_repair.specs.Alike.{bare, IsSameBut}
use Rattle.vol_repair.specs.Removing.{place_from, is_told, without_told, is_double, is_on_loop}
use Rattle.vol_repair.proofs.Relisting.{each_alike, each_same, filter_on, alike, told_on, told_none}

-- ---- what is spelt

module _ (g : Geometry) (bs : List Block) (own : Owners) (c : Cat) (s : Spells g bs own c) where
  -- there are at most 4,096 files
  pub few_files : length c.files ≤ 4096
  few_files = let e = s.counts.slots in let k = s.counts.geometry.files_to in omega (arith, e, k)

  -- each directory has each name and version once
  pub single : Single (places c)
  single = single_slots 1 c.files each where
    each : (k : ℕ) (x : Slot) → slice_get c.files k ≡ Some x → Single (map (placed (1 + k)) (entries_in x))
    each k x at =
        let within = slice_get_within c.files k x at in
        let count = s.counts.slots in
        let number : IsFileNumber g (1 + k) = record { from = omega arith; to = omega (arith, within, count) } in
        let place : k ≡ 1 + k - 1 = omega arith in
        let t = s.files (1 + k) x number (subst (λ (i : ℕ). slice_get c.files i ≡ Some x) place at) in
        subst (λ (y : Slot). Single (map (placed (1 + k)) (entries_in y))) t.slot (single_slot (1 + k) g.cluster (1 + k) (told_of g bs (1 + k)).head (body_blocks bs (1 + k) (told_of g bs (1 + k))))

  -- a file that is no directory has no entries
  pub plain_file : (n : ℕ) (f : File) → file_at c n ≡ Some f → f.dir ≡ false → f.entries ≡ []
  plain_file n f at other =
      let t = s.files n (Used f) (file_number g bs own c s n f at) (stands_at c n f at) in
      let h = tells_file g.cluster n (told_of g bs n).head (body_blocks bs n (told_of g bs n)) f t.slot in
      let dir : h.hdr.dir ≡ false = ap (λ (x : File). x.dir) h.is ∙ other in
      sym (ap (λ (x : File). x.entries) h.is) ∙ ap (λ b. cond b (plain_entries (directory (body_blocks bs n (told_of g bs n)))) []) dir

-- ---- those that a test names

module _ (c : Cat) (one : Single (places c)) (plain : (n : ℕ) (f : File) → file_at c n ≡ Some f → f.dir ≡ false → f.entries ≡ []) (goes : Place → Bool) where
  told_is : (n : ℕ) (f : File) (e : DirEnt) → file_at c n ≡ Some f → f.dir ≡ true → Has f.entries e → is_told (filter goes (places c)) n e ≡ goes (placed n e)
  unfolding is_told
  told_is n f e at dir has = alike _ (goes (placed n e)) to from where
    here : Has (places c) (placed n e)
    here = in_to c (placed n e) (record { file = f; at = at; dir = dir; entry = has })

    to : is_told (filter goes (places c)) n e ≡ true → goes (placed n e) ≡ true
    to h =
        let r = any_has (λ (p : Place). same_place p (placed n e)) (filter goes (places c)) h in
        let k = has_filtered goes (places c) r.0 r.1 in
        subst (λ (p : Place). goes p ≡ true) (single_one (places c) one r.0 (placed n e) k.0 here r.2) k.1

    from : goes (placed n e) ≡ true → is_told (filter goes (places c)) n e ≡ true
    from h =
        has_any (λ (p : Place). same_place p (placed n e)) (filter goes (places c)) (placed n e) (has_passed goes (places c) (placed n e) here h) (same_place-refl (placed n e) (placed n e) refl)

  left_so : (n : ℕ) (f : File) → file_at c n ≡ Some f → without_told (filter goes (places c)) n f.entries ≡ filter (λ e. not (goes (placed n e))) f.entries
  left_so n f at = by_dir (cases_Bool f.dir) where
    by_dir : (f.dir ≡ true) ⊎ (f.dir ≡ false) → without_told (filter goes (places c)) n f.entries ≡ filter (λ e. not (goes (placed n e))) f.entries
    by_dir (inl dir) = filter_on (λ e. not (is_told (filter goes (places c)) n e)) (λ e. not (goes (placed n e))) f.entries (λ e has. ap not (told_is n f e at dir has))
    by_dir (inr other) =
        let none : f.entries ≡ [] = plain n f at other in
        ap (without_told (filter goes (places c)) n) none ∙ sym (ap (filter (λ e. not (goes (placed n e)))) none)

  -- they go, and no other
  pub leavers_go : with_each (without_told (filter goes (places c))) c ≡ with_each (λ n es. filter (λ e. not (goes (placed n e))) es) c
  leavers_go = ap (λ (fs : List Slot). record c { files = fs }) (each_alike (without_told (filter goes (places c))) (λ n es. filter (λ e. not (goes (placed n e))) es) 1 c.files (λ i f at.
      let place : i ≡ 1 + i - 1 = omega arith in
      left_so (1 + i) f (file_from c (1 + i) f (omega arith) (subst (λ (k : ℕ). slice_get c.files k ≡ Some (Used f)) place at))))

-- ---- lists of entries that go

pub next_place : (ls : List Leaver) (i : ℕ) (l : Leaver) → i < length ls → l ≡ get_or ls i l → place_from l ∷ map place_from (drop (i + 1) ls) ≡ map place_from (drop i ls)
next_place ls i l lt is =
    let next : suc i ≡ i + 1 = omega arith in
    sym (ap (map place_from) (drop-cons ls i l lt) ∙ (λ k. place_from (sym is k) ∷ map place_from (drop (next k) ls)))

none_after : (ls : List Leaver) (i : ℕ) → length ls ≤ i → drop i ls ≡ []
none_after [] zero le = refl
none_after [] (suc i) le = refl
none_after (l ∷ ls) zero le = absurd (omega (arith, le))
none_after (l ∷ ls) (suc i) le = none_after ls i (omega (arith, le))

-- one of them is gone
pub one_gone : (c d first : Cat) (ls : List Leaver) (i : ℕ) (l : Leaver) → i < length ls → l ≡ get_or ls i l → d ≡ with_each (without_told (place_from l ∷ [])) c
    → with_each (without_told (map place_from (drop i ls))) c ≡ with_each (without_told (map place_from ls)) first
    → with_each (without_told (map place_from (drop (i + 1) ls))) d ≡ with_each (without_told (map place_from ls)) first
one_gone c d first ls i l lt is gone left =
    ap (with_each (without_told (map place_from (drop (i + 1) ls)))) gone
    ∙ (told_on c (place_from l) (map place_from (drop (i + 1) ls)) ∙ (ap (λ (ps : List Place). with_each (without_told ps) c) (next_place ls i l lt is) ∙ left))

pub one_alike : (c d first : Cat) (l : Leaver) → d ≡ with_each (without_told (place_from l ∷ [])) c → IsSameBut first c → IsSameBut first d
one_alike c d first l gone same = ap (λ (x : Cat). map bare x.files) gone ∙ (each_same (without_told (place_from l ∷ [])) c ∙ same)

-- all of them are gone
pub all_gone : (c first : Cat) (ls : List Leaver) (i : ℕ) → length ls ≤ i → with_each (without_told (map place_from (drop i ls))) c ≡ with_each (without_told (map place_from ls)) first
    → c ≡ with_each (without_told (map place_from ls)) first
all_gone c first ls i le left = sym (told_none c) ∙ (ap (λ (ks : List Leaver). with_each (without_told (map place_from ks)) c) (sym (none_after ls i le)) ∙ left)

-- ---- what goes

-- a list of all entries that a test names, of blocks that spell the catalogue
pub all_named : (g : Geometry) (bs : List Block) (own : Owners) (c : Cat) → Spells g bs own c → (goes : Place → Bool) (ls all : List Leaver) → ls ≡ all → map place_from all ≡ filter goes (places c)
    → with_each (without_told (map place_from ls)) c ≡ with_each (λ n es. filter (λ e. not (goes (placed n e))) es) c
all_named g bs own c s goes ls all same are =
    ap (λ (ks : List Leaver). with_each (without_told (map place_from ks)) c) same
    ∙ (ap (λ (ps : List Place). with_each (without_told ps) c) are ∙ leavers_go c (single g bs own c s) (plain_file g bs own c s) goes)

other_way : (a b : Bool) → not (a && not b) ≡ (not a || b)
other_way true true = refl
other_way true false = refl
other_way false b = refl

main_left : (n : ℕ) (es : List DirEnt) → filter (λ e. not (is_double (placed n e))) es ≡ main_without n es
main_left n es = by (n == 4) where
  by : (b : Bool) → filter (λ e. not (b && (names_main e && not (is_system_entry 4 e)))) es ≡ cond b (filter (λ e. not (names_main e) || is_system_entry 4 e) es) es
  by true = filter_on (λ e. not (names_main e && not (is_system_entry 4 e))) (λ e. not (names_main e) || is_system_entry 4 e) es (λ e h. other_way (names_main e) (is_system_entry 4 e))
  by false = filter_all (λ e. true) es (λ e h. refl)

-- what is left of the entries that name the master file directory
pub own_is_left : (c : Cat) → with_each (λ n es. filter (λ e. not (is_double (placed n e))) es) c ≡ without_own c
unfolding without_own
own_is_left c = λ i. with_each (λ n es. main_left n es i) c

loop_left : (c : Cat) (n : ℕ) (es : List DirEnt) → filter (λ e. not (is_on_loop c (placed n e))) es ≡ loop_without c n es
loop_left c n es = by (not (n == 4) && leads_back c n) where
  by : (b : Bool) → filter (λ e. not (b && names_dir c e)) es ≡ cond b (filter (λ e. not (names_dir c e)) es) es
  by true = refl
  by false = filter_all (λ e. true) es (λ e h. refl)

-- what is left of the entries of directories on loops
pub loops_are_left : (c : Cat) → with_each (λ n es. filter (λ e. not (is_on_loop c (placed n e))) es) c ≡ without_loops c
unfolding without_loops
loops_are_left c = λ i. with_each (λ n es. loop_left c n es i) c

-- none of these entries is on a loop where there is none
pub none_on_loop : (c : Cat) → ((f : Finding) → rank f ≡ 15 → IsFatalOf c f → ⊥) → (ps : List Place) → [] ≡ filter (is_on_loop c) ps
none_on_loop c none [] = refl
none_on_loop c none (p ∷ ps) = by_dir (not (p.dir == 4)) (leads_back c p.dir) refl (none_on_loop c none ps) where
  by_dir : (a b : Bool) → leads_back c p.dir ≡ b → [] ≡ filter (is_on_loop c) ps → [] ≡ cond ((a && b) && names_dir c p.entry) (p ∷ filter (is_on_loop c) ps) (filter (is_on_loop c) ps)
  by_dir a true e rest = absurd (none (DirLoop p.dir) refl ((loops_are_found c p.dir).0 e))
  by_dir true false e rest = rest
  by_dir false false e rest = rest
