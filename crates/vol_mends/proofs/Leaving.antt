-- A slot that becomes free.
use Rattle.std.proofs.Common.{◌≡◌, ◌≢◌, ◌∙◌, ◌<◌, ◌≤◌, ◌+◌, ◌-◌, ℕ, true, false, not, List, [], Some, length, map, slice_get, slice_set, length-set, refl, sym, ap, subst, arith, ◌⊎◌, inl, inr}
use Rattle.std.specs.Prelude.{◌==◌, ◌||◌, ◌↔◌, count_by, is_some}
use Rattle.std.proofs.lemmas.Bool.{eq-eqb, and_from}
use Rattle.base_words.specs.Fields.{Block}
use Rattle.plain_cat.specs.declared.ids.Fid.{Fid}
use Rattle.plain_cat.specs.declared.cat.Cat.{Cat}
use Rattle.plain_cat.specs.declared.cat.File.{File}
use Rattle.plain_cat.specs.declared.cat.Slot.TheVariants as slot
use Rattle.plain_rules.specs.declared.places.Place.{Place}
use Rattle.plain_rules.specs.Changes.{with_slot}
use Rattle.plain_rules.specs.Mending.{places, same_fid, is_named}
use Rattle.plain_mends.specs.Resuming.{leaving}
use Rattle.base_words.proofs.Listing.{has_from, has_any}
use Rattle.plain_laws.proofs.Standing.{number_rises}
use Rattle.vol_spell.specs.declared.owner.Owner.TheVariants.{InFile, Outside, Leaked}
use Rattle.vol_spell.specs.Owners.{Owners, IsFileMove}
use Rattle.vol_spell.specs.Counts.{is_same_owner}
use Rattle.vol_spell.proofs.Counting.{counts_list}
use Rattle.base_words.proofs.Listing.{same_or_not}
use Rattle.vol_parts.specs.declared.geometry.Geometry.{Geometry}
use Rattle.vol_parts.specs.declared.geometry.Part.TheVariants.{Header}
use Rattle.vol_parts.specs.Chains.{as_first}
use Rattle.vol_parts.specs.Volumes.{Told, fields_in}
use Rattle.vol_parts.specs.Warnings.{is_double_dir}
use Rattle.vol_spell.specs.Reading.{IsFileNumber, header_place, told_of, nobody, clusters_told, body_blocks}
use Rattle.vol_spell.specs.Spelling.{IsHead, Tells, Spells}
use Rattle.vol_spell.specs.Kinds.{IsHeaderFor, with_leaks}
use Rattle.vol_spell.proofs.Adds.{size_told}
use Rattle.vol_spell.proofs.Parts.{part_owned, in_use, number_slot}
use Rattle.vol_spell.proofs.Frames.{on_volume}
use Rattle.vol_spell.proofs.Viewing.{none_set, header_set}
use Rattle.vol_spell.proofs.Keeping.{header_write, death_leaks}
use Rattle.vol_mends.specs.Going.{Change, Freed, Leaked as Leaks}
use Rattle.vol_mends.proofs.Tests.{tells_file}
use Rattle.vol_mends.proofs.AcceptedSteps.{weak_can_mend}
use Rattle.vol_spell.proofs.EntryDirs.{used_at}
use Rattle.vol_mends.specs.Told.{LeadsTo, IsSingle, KeepsSingles}
use Rattle.vol_mends.specs.Slots.{CanBeFreed, leaving_slots, SlotIsFreed}
use Rattle.base_words.specs.Lists.{Has}
use Rattle.vol_parts.specs.Catalogues.{flagged}
use Rattle.vol_parts.proofs.Flagging.{length-flagged}
use Rattle.vol_spell.proofs.OneHeader.{none_split}
use Rattle.vol_spell.proofs.HeadSlots.{no_parts}
use Rattle.vol_mends.proofs.Basics.{clash, lower_or}
use Rattle.vol_mends.proofs.WriteTold.{Owned, owned, changed_on, home_left}
use Rattle.vol_mends.proofs.OneWrite.{doubles_told, single_same}
use Rattle.vol_mends.proofs.Moved.{file_number}
use Rattle.vol_mends.proofs.Parting.{parted, to_node, to_leaks, nothing_left, leaks_out, leaks_count, flags_set}
use Rattle.vol_parts.proofs.Structures.{not_structure}

one_fid : (a b : Fid) → a ≡ b → same_fid a b ≡ true
unfolding same_fid
one_fid a b e = and_from (a.num == b.num) (a.seq == b.seq) (eq-eqb a.num b.num (ap (λ (x : Fid). x.num) e)) (eq-eqb a.seq b.seq (ap (λ (x : Fid). x.seq) e))

module _ (g : Geometry) (bs : List Block) (c : Cat) (n : ℕ) (f : File) (b : Block) (can : CanBeFreed g bs c n f b) where
  abbrev o : Owned g bs c
  o = owned g bs c can.told

  abbrev l : ℕ
  l = header_place g n

  abbrev new : List Block
  new = slice_set bs (header_place g n) b

  number : IsFileNumber g n
  number = file_number g bs o.own c o.spells n f can.file

  -- it is no system file, which would be named
  above : 11 < n
  above = by (lower_or n 11) where
    by : (n ≤ 11) ⊎ (11 < n) → 11 < n
    by (inr lt) = lt
    by (inl le) =
        let rises = number_rises c n f can.file in
        let s = (weak_can_mend bs c can.told.cat).0.systems n (omega (arith, rises)) le in
        let both : Some s.0 ≡ Some f = sym s.1 ∙ can.file in
        let same : s.0 ≡ f = cc both in
        let unmarked : f.marked ≡ false = ap (λ (x : File). x.marked) (sym same) ∙ s.2.unmarked in
        let own = can.settled.owned n f le can.file unmarked in
        let fid : Fid = record { num = n; seq = f.seq } in
        let named : is_named c (record { num = n; seq = f.seq }) ≡ true = has_any (λ (p : Place). same_fid p.entry.fid fid) (places c) own.0 (has_from (places c) own.0 own.1) (one_fid own.0.entry.fid fid own.3) in
        let stays : f.marked || not (is_named c (record { num = n; seq = f.seq })) ≡ false = ap (λ t. t || not (is_named c (record { num = n; seq = f.seq }))) unmarked ∙ ap not named in
        absurd (clash _ can.gone stays)

  on : header_place g n < length bs
  on = on_volume g bs o.own c o.spells (header_place g n) (InFile 1) (part_owned g bs o.own c o.spells (Header n) number)

  -- what is told of the file, before and after
  tells : Tells g o.own n (told_of g bs n) (body_blocks bs n (told_of g bs n)) (slot.Used f)
  tells = o.spells.files n (slot.Used f) number (used_at c n f can.file)

  told_now : told_of g new n ≡ nobody f.seq
  told_now = none_set g bs n b f.seq on (ap as_first can.free)

  abbrev mid : Owners
  mid = parted n (Outside 0) o.own

  abbrev left : Owners
  left = parted n Leaked o.own

  tells_now : Tells g mid n (nobody f.seq) (body_blocks bs n (nobody f.seq)) (slot.Free f.seq)
  tells_now = record {
    reads = tt;
    whole = tt;
    once = tt;
    runs = λ q. ((λ t. absurd t), (λ e. absurd (nothing_left n (Outside 0) o.own.clusters q (λ k. cc k) e)));
    few = λ high. omega arith;
    split = λ high. none_split g.cluster f.seq;
    system = λ low. refl;
    slots = λ m. ((λ t. absurd t), (λ u. absurd (nothing_left n (Outside 0) o.own.numbers (m - 1) (λ k. cc k) u.1)));
    size = refl;
    dir = refl;
    slot = refl;
  }

  in_number : slice_get o.own.numbers (n - 1) ≡ Some (InFile n)
  in_number =
      let file = tells_file g.cluster n (told_of g bs n).head (body_blocks bs n (told_of g bs n)) f tells.slot in
      (in_use g bs o.own c o.spells n number).0 (ap is_some file.at)

  header_for : IsHeaderFor g bs 0 n n o.own mid c b (slot.Free f.seq)
  header_for = record {
    whole = can.whole;
    number = number;
    slot = inl refl;
    owned = subst (IsFileMove 0 n) (sym in_number) refl;
    head = subst (IsHead n) (sym can.free) tt;
    alike = λ other. absurd (other refl);
    parts = no_parts n (not_structure n above);
    moves = to_node n o.own;
    tells = subst (λ (z : Told). Tells g mid n z (body_blocks bs n z) (slot.Free f.seq)) (sym told_now) tells_now;
    reserved = λ old low at. let high = above in absurd (omega (arith, low, high));
  }

  written : Spells g new mid (with_slot c n (slot.Free f.seq))
  written = header_write g bs o.own mid c 0 n n b (slot.Free f.seq) o.spells header_for

  leaked : Spells g new left (with_leaks left (with_slot c n (slot.Free f.seq)))
  leaked = death_leaks g new mid left (with_slot c n (slot.Free f.seq)) 0 written (to_leaks n o.own)

  -- ---- the catalogue

  clusters_of_file : count_by (is_same_owner (InFile n)) o.own.clusters ≡ f.clusters
  clusters_of_file =
      counts_list (InFile n) (clusters_told g (told_of g bs n)) o.own.clusters tells.once tells.runs
      ∙ sym (size_told g o.own n (told_of g bs n) (body_blocks bs n (told_of g bs n)) (slot.Used f) o.spells.counts.geometry.cluster_from tells)

  clusters_left : count_by (is_same_owner Leaked) left.clusters ≡ c.leaked + f.clusters
  clusters_left =
      let all = leaks_count n o.own.clusters in
      let were = o.spells.owners.leaked in
      let mine = clusters_of_file in
      omega (arith, all, were, mine)

  -- the numbers of the file are those of its header slots
  numbered : (q : ℕ) → Has (told_of g bs n).slots (q + 1) ↔ (slice_get o.own.numbers q ≡ Some (InFile n))
  numbered q =
      let back : q + 1 - 1 ≡ q = omega arith in
      ((λ t. ap (slice_get o.own.numbers) (sym back) ∙ ((tells.slots (q + 1)).0 t).1), (λ e. (number_slot g bs o.own c o.spells q n e).1))

  numbers_left : map (is_same_owner Leaked) left.numbers ≡ flagged (told_of g bs n).slots c.leaked_numbers
  numbers_left =
      flags_set n o.own.numbers (told_of g bs n).slots (λ m t. ((tells.slots m).0 t).0.from) numbered
      ∙ ap (flagged (told_of g bs n).slots) (sym o.spells.owners.leaked_numbers)

  abbrev gone : Cat
  gone = leaving_slots c n f (told_of g bs n).slots

  cat_is : with_leaks left (with_slot c n (slot.Free f.seq)) ≡ gone
  cat_is =
      let k = clusters_left in
      let ns = numbers_left in
      λ i. record (with_slot c n (slot.Free f.seq)) { leaked = k i; leaked_numbers = ns i }

  home_apart : 1 ≢ header_place g n
  home_apart e = let low = o.spells.counts.geometry.cluster_from in omega (arith, e, low)

  change : Change c (leaving c n f)
  change = Freed n f can.settled can.entered can.full can.file can.gone

  more : Change (leaving c n f) gone
  more =
      Leaks (leaving c n f).leaked (flagged (told_of g bs n).slots c.leaked_numbers)
      (length-flagged (told_of g bs n).slots c.leaked_numbers ∙ sym (length-set c.leaked_numbers (n - 1) true))

  spelt : Spells g new left gone
  spelt = subst (λ (x : Cat). Spells g new left x) cat_is leaked

  slot_leads : LeadsTo g bs c gone new
  slot_leads = changed_on g bs new left c (leaving c n f) gone can.told change more spelt (leaks_out n o.own o.outs) (home_left bs (header_place g n) b home_apart)

  -- ---- directories

  none_here : IsSingle g new n
  none_here =
      doubles_told [] g new left gone spelt n number
      ∙ ap (λ (d : Told). is_double_dir (fields_in d.head) (body_blocks new n (told_of g new n))) told_now

  slot_singles : KeepsSingles g bs new
  slot_singles i is single = by (same_or_not i n) where
    by : (i ≡ n) ⊎ (i ≢ n) → IsSingle g new i
    by (inl same) = subst (λ k. IsSingle g new k) (sym same) none_here
    by (inr other) =
        single_same g bs new o.own left c gone o.spells spelt i is
        ((header_set g bs o.own mid c 0 n n b (slot.Free f.seq) o.spells header_for).others i is other other) single

pub slot_is_freed : SlotIsFreed
slot_is_freed = record { leads = slot_leads; singles = slot_singles; within = on }
