-- The moves that pack a directory, that take an entry out, and that enter a lost file.
use Rattle.std.proofs.Common.{◌≡◌, ◌∙◌, ◌<◌, ◌≤◌, ℕ, zero, suc, Bool, true, false, cond, List, [], ◌∷◌, Some, None, Ok, is_some, length, map, take, refl, sym, ap, subst, arith, ◌⊎◌, inl, inr}
use Rattle.std.specs.Prelude.{◌==◌, not}
use Rattle.std.specs.Str.{bytes_eq}
use Rattle.std.proofs.lemmas.Bool.{eq-eqb}
use Rattle.base_words.specs.Fields.{Block, IsWholeBlock}
use Rattle.base_words.specs.Packing.{size, pack}
use Rattle.fx_dir.specs.declared.RawEnt.{RawEnt}
use Rattle.fx_dir.specs.declared.Move.{Move}
use Rattle.fx_dir.specs.Lists.{Each}
use Rattle.fx_dir.specs.Entries.{same, has as has_raw, plain, without as without_raw}
use Rattle.fx_dir.specs.Directory.{plainly, directory, dir_entries}
use Rattle.fx_dir.specs.Writing.{IsInForm, IsRanged, name_of, block_of}
use Rattle.fx_dir.specs.Moves.{written as moved, removal, removal_of, removal_on, packing_writes, repacking, packed_as, on_entries, key, rising, Packs, Removes}
use Rattle.fx_dir.proofs.Meeting.{Sound}
use Rattle.fx_dir.proofs.Changing.{rising-each}
use Rattle.fx_dir.proofs.Building.{pack-each}
use Rattle.fx_dir.proofs.Greedy.{pack-room}
use Rattle.fx_dir.proofs.Removing.{removes}
use Rattle.fx_dir.proofs.Repacking.{packs}
use Rattle.fx_dir.proofs.Groups.{rises-filter}
use Rattle.fx_dir.proofs.Order.{bytes_refl}
use Rattle.fx_dir.proofs.Seeing.{without-each}
use Rattle.vol_parts.proofs.Groups.{HasByte, have-bytes, whole-block}
use Rattle.plain_cat.specs.declared.cat.Cat.{Cat}
use Rattle.plain_cat.specs.declared.cat.File.{File}
use Rattle.plain_cat.specs.declared.entries.DirEnt.{DirEnt}
use Rattle.plain_rules.specs.declared.places.Place.{Place}
use Rattle.plain_rules.specs.Lookups.{versions, first_with}
use Rattle.plain_rules.specs.Directories.{is_taken}
use Rattle.plain_rules.specs.Changes.{with_entries}
use Rattle.plain_mends.specs.Resuming.{Goes, less_one}
use Rattle.base_words.specs.Lists.{Has}
use Rattle.base_words.proofs.Listing.{has_from}
use Rattle.vol_spell.specs.Spread.{blocks_at}
use Rattle.vol_parts.specs.declared.geometry.Geometry.{Geometry}
use Rattle.vol_parts.specs.Catalogues.{plain_entry}
use Rattle.vol_mends.specs.Going.{Change, Leaked, Removed}
use Rattle.vol_mends.proofs.AcceptedSteps.{weak_can_mend}
use Rattle.vol_spell.specs.Entries.{blocks_of, after_moves, AreMovesTo, CanBeRemoved, Leaves}
use Rattle.vol_spell.proofs.EntryLists.{map_plain}
use Rattle.vol_spell.proofs.EntryGoes.{entry_leaves}
use Rattle.vol_spell.proofs.RemovalLists.{is_there}
use Rattle.vol_mends.specs.Told.{IsTold, LeadsTo, IsSingle}
use Rattle.vol_mends.specs.Moving.{HasDir, MovesLead, DirIsPacked, EntryGoes}
use Rattle.vol_mends.proofs.Basics.{lower_or}
use Rattle.vol_mends.proofs.WriteTold.{unchanged}
use Rattle.vol_mends.proofs.OneWrite.{single_of}
use Rattle.vol_mends.proofs.Moved.{as_it_is, o, number, at, lists, sound, order, long, moved_lead}

-- ---- packing

whole_groups : (gs : List (List RawEnt)) → Each (λ es. Each IsInForm es) gs → Each (λ es. Each HasByte es) gs → Each (λ es. size name_of None es ≤ 510) gs → Each IsWholeBlock (map block_of gs)
whole_groups [] form flags room = tt
whole_groups (es ∷ gs) form flags room = (whole-block es form.0 flags.0 room.0, whole_groups gs form.1 flags.1 room.1)

whole_pack : (k : ℕ) (es : List RawEnt) → Sound es → Each IsWholeBlock (map block_of (pack name_of k es))
whole_pack k es s =
    whole_groups (pack name_of k es) (pack-each IsInForm k es s.form) (pack-each HasByte k es (have-bytes es s.ranged)) (pack-room k es)

module _ (g : Geometry) (bs : List Block) (c : Cat) (n : ℕ) (d : File) (h : HasDir g bs c n d) where
  abbrev old : List Block
  old = blocks_of g bs n

  abbrev fs : List RawEnt
  fs = (at g bs c n d h).entries

  read : directory old ≡ Ok fs
  read = (at g bs c n d h).read

  abbrev pass : List Move
  pass = rising 1 (blocks_of g bs n) (map block_of (pack name_of (length (blocks_of g bs n)) (at g bs c n d h).entries))

  pass_is : repacking old ≡ pass
  pass_is = ap (λ r. rising 1 old (packed_as old r)) read

  law : Packs old pass
  law = packs old fs pass (long g bs c n d h) read (sound g bs c n d h) refl

  were : dir_entries old ≡ Ok (map plain fs)
  were = ap plainly read

  kept : (i : ℕ) → dir_entries (moved (take i pass) old) ≡ Ok (map plain fs)
  kept i = law.entries i ∙ were

  whole : moved pass old ≡ map block_of (pack name_of (length old) fs)
  whole = law.whole ∙ ap (packed_as old) read

  same_entries : with_entries c n d (map plain_entry (map plain fs)) ≡ c
  same_entries = ap (with_entries c n d) (map_plain fs ∙ sym (lists g bs c n d h)) ∙ as_it_is c n d h.file

  lead : (j : ℕ) → j < length pass → AreMovesTo old (map plain fs) (map plain fs) j pass
  lead j lt = record {
    whole = rising-each IsWholeBlock 1 old (map block_of (pack name_of (length old) fs)) (whole_pack (length old) fs (sound g bs c n d h));
    changes = law.changes;
    decides = lt;
    same = λ i le. kept i;
    other = λ i lt le. kept i;
  }

  stays_so : Change c c
  stays_so = Leaked c.leaked c.leaked_numbers refl

  -- where blocks are to be written
  some : (j : ℕ) → length pass ≡ suc j → MovesLead g bs c c n (length pass) pass
  some j count =
      let lt : j < length pass = omega (arith, count) in
      let m = moved_lead g bs c n d h c (map plain fs) (map plain fs) j pass (lead j lt) stays_so same_entries (length old) fs (sound g bs c n d h) (order g bs c n d h) whole in
      record {
        before = λ k le. by_place m k le (lower_or k j);
        behind = λ k lt le. absurd (omega (arith, lt, le));
        singles = m.singles;
        packed = m.packed;
        within = m.within;
      }
    where
      by_place : MovesLead g bs c c n j pass → (k : ℕ) → k ≤ length pass → (k ≤ j) ⊎ (j < k) → LeadsTo g bs c c (after_moves g n (take k pass) bs)
      by_place m k le (inl few) = m.before k few
      by_place m k le (inr many) = m.behind k many le

  -- where none is
  none : pass ≡ [] → MovesLead g bs c c n (length pass) pass
  none empty = subst (λ (ms : List Move). MovesLead g bs c c n (length ms) ms) (sym empty) (record {
    before = λ k le. here k;
    behind = λ k lt le. absurd (omega (arith, lt, le));
    singles = λ k m le file other single. subst (λ (ys : List Block). IsSingle g ys m) (sym (nothing k)) single;
    packed = single_of g bs (o g bs c n d h).own c (o g bs c n d h).spells n (length old) fs (number g bs c n d h) (sound g bs c n d h) (order g bs c n d h)
        (ap (λ ls. blocks_at bs ls) (at g bs c n d h).places ∙ (ap (λ (ms : List Move). moved ms old) (sym empty) ∙ whole));
    within = λ l t. absurd t;
  }) where
    nothing : (k : ℕ) → after_moves g n (take k []) bs ≡ bs
    nothing zero = refl
    nothing (suc k) = refl

    here : (k : ℕ) → LeadsTo g bs c c (after_moves g n (take k []) bs)
    here k = subst (λ (ys : List Block). LeadsTo g bs c c ys) (sym (nothing k)) (unchanged g bs bs (o g bs c n d h).own c h.told (o g bs c n d h).spells (o g bs c n d h).outs refl)

  packing_leads : MovesLead g bs c c n (length pass) pass
  packing_leads = by pass refl where
    by : (ms : List Move) → pass ≡ ms → MovesLead g bs c c n (length pass) pass
    by [] e = none e
    by (m ∷ ms) e = some (length ms) (ap length e)

pub dir_is_packed : DirIsPacked
dir_is_packed g bs c n d h = subst (λ (ms : List Move). MovesLead g bs c c n (length ms) ms) (sym (pass_is g bs c n d h)) (packing_leads g bs c n d h)

-- ---- an entry that goes

-- an entry that is there is among the versions of its name
pub taken : (es : List DirEnt) (e : DirEnt) → Has es e → is_taken e.ver (versions e.name es) ≡ true
taken [] e h = absurd h
taken (x ∷ es) e (inl same) =
    let name : bytes_eq x.name e.name ≡ true = ap (λ (y : DirEnt). bytes_eq y.name e.name) same ∙ bytes_refl e.name in
    let ver : (x.ver == e.ver) ≡ true = ap (λ (y : DirEnt). y.ver == e.ver) same ∙ eq-eqb e.ver e.ver refl in
    ap (λ b. is_taken e.ver (cond b (x ∷ versions e.name es) (versions e.name es))) name
    ∙ ap (λ b. is_some (cond b (Some x) (first_with e.ver (versions e.name es)))) ver
taken (x ∷ es) e (inr more) = by (bytes_eq x.name e.name) (taken es e more) where
  by_version : (b : Bool) → is_taken e.ver (versions e.name es) ≡ true → is_some (cond b (Some x) (first_with e.ver (versions e.name es))) ≡ true
  by_version true rest = refl
  by_version false rest = rest

  by : (b : Bool) → is_taken e.ver (versions e.name es) ≡ true → is_taken e.ver (cond b (x ∷ versions e.name es) (versions e.name es)) ≡ true
  by true rest = by_version (x.ver == e.ver) rest
  by false rest = rest

module _ (g : Geometry) (bs : List Block) (c : Cat) (p : Place) (d : File) (t : IsTold g bs c) (goes : Goes c p d) where
  has : HasDir g bs c p.dir d
  has = record { told = t; file = goes.at; dir = goes.dir }

  there : is_taken p.entry.ver (versions p.entry.name d.entries) ≡ true
  there = taken d.entries p.entry (has_from d.entries p.entry goes.entry)

  can : CanBeRemoved g c p.dir d p.entry
  can = record { number = number g bs c p.dir d has; file = goes.at; dir = goes.dir; there = there }

  leaves : Leaves g bs p.dir d p.entry
  leaves = entry_leaves g bs (o g bs c p.dir d has).own c p.dir d p.entry (o g bs c p.dir d has).spells can

  abbrev body : List Block
  body = blocks_of g bs p.dir

  abbrev es : List RawEnt
  es = (at g bs c p.dir d has).entries

  abbrev gone : RawEnt
  gone = key p.entry.name p.entry.ver

  removal_is : removal body p.entry.name p.entry.ver ≡ removal_of body es gone
  removal_is = ap (removal_on body gone) (at g bs c p.dir d has).read

  found : has_raw es gone ≡ true
  found = is_there p.entry.name p.entry.ver es (ap (λ (xs : List DirEnt). is_taken p.entry.ver (versions p.entry.name xs)) (sym (lists g bs c p.dir d has)) ∙ there)

  removing : Removes body gone (removal_of body es gone)
  removing = removes body es gone (removal_of body es gone) (long g bs c p.dir d has) (at g bs c p.dir d has).read found (sound g bs c p.dir d has) refl refl

  left_packed : moved (removal body p.entry.name p.entry.ver) body ≡ map block_of (pack name_of (length body) (without_raw gone es))
  left_packed =
      ap (λ (ms : List Move). moved ms body) removal_is ∙ (removing.whole ∙ ap (λ r. packed_as body (on_entries (without_raw gone) r)) (at g bs c p.dir d has).read)

  left_sound : Sound (without_raw gone es)
  left_sound = let s = sound g bs c p.dir d has in record { form = without-each IsInForm gone es s.form; ranged = without-each IsRanged gone es s.ranged }

  change : Change c (less_one c p d)
  change = Removed p d (weak_can_mend bs c t.cat).1 goes

  goes_leads : MovesLead g bs c (less_one c p d) p.dir (packing_writes body) (removal body p.entry.name p.entry.ver)
  goes_leads =
      moved_lead g bs c p.dir d has (less_one c p d) leaves.old leaves.new (packing_writes body) (removal body p.entry.name p.entry.ver) leaves.lead change (ap (with_entries c p.dir d) leaves.entries)
      (length body) (without_raw gone es) left_sound (rises-filter (λ x. not (same gone x)) es (order g bs c p.dir d has)) left_packed

pub entry_goes : EntryGoes
entry_goes = record { leads = goes_leads; decides = λ g bs c p d t goes. (leaves g bs c p d t goes).lead.decides }
