-- The last header of a file is cut to the blocks that the file has in it.
use Rattle.std.proofs.Common.{◌≡◌, ◌≢◌, ◌∙◌, ◌<◌, ◌≤◌, ◌-◌, ◌↔◌, ◌&&◌, not, ℕ, Bool, true, false, cond, List, [], Option, Some, None, All, Ok, Err, Result, length, slice_get, slice_set, get_or, get_or-set_other, refl, sym, ap, subst, arith, ◌⊎◌, inl, inr}
use Rattle.std.specs.Prelude.{◌==◌, is_some}
use Rattle.std.proofs.lemmas.Bool.{and_parts}
use Rattle.std.proofs.lemmas.List.Elements.{All-nil}
use Rattle.base_words.specs.Fields.{Block}
use Rattle.base_words.specs.Lists.{Has, Once}
use Rattle.base_words.proofs.Listing.{same_or_not, set_same}
use Rattle.fx_header.specs.declared.slot.Hdr.{Hdr}
use Rattle.fx_header.specs.declared.slot.Slot.{Slot as Head}
use Rattle.fx_header.specs.declared.slot.Slot.TheVariants as head
use Rattle.fx_header.specs.declared.slot.HeaderFault.{HeaderFault}
use Rattle.fx_header.specs.Headers.{header_read}
use Rattle.fx_header.specs.Pointers.{blocks_in, merged}
use Rattle.fx_dir.specs.Directory.{directory}
use Rattle.plain_cat.specs.declared.cat.Cat.{Cat}
use Rattle.plain_cat.specs.declared.cat.Slot.{Slot}
use Rattle.plain_cat.specs.declared.cat.Slot.TheVariants as slot
use Rattle.plain_rules.specs.Changes.{with_slot}
use Rattle.plain_rules.specs.Lookups.{file_most}
use Rattle.vol_spell.specs.declared.owner.Owner.TheVariants.{InFile}
use Rattle.vol_spell.specs.Owners.{IsFileMove}
use Rattle.vol_spell.specs.Spread.{blocks_at}
use Rattle.vol_parts.specs.declared.geometry.Geometry.{Geometry}
use Rattle.vol_parts.specs.declared.geometry.Part.TheVariants.{Header}
use Rattle.vol_parts.specs.declared.finding.Finding.TheVariants as finding
use Rattle.vol_parts.specs.Chains.{as_first, most_headers, cut, chain_of, is_well_split}
use Rattle.vol_parts.specs.ChainLaws.{HasBlocks}
use Rattle.vol_parts.specs.Fatal.{is_one_header, has_dir_size, found_in}
use Rattle.vol_parts.specs.Volumes.{Told, fields_in, runs_with, told_with, told_by}
use Rattle.vol_parts.specs.Catalogues.{is_structure, slot_with}
use Rattle.vol_parts.specs.Warnings.{is_double_dir}
use Rattle.vol_parts.proofs.Alone.{first-is, first-used}
use Rattle.vol_parts.proofs.Listed.{runs-some}
use Rattle.vol_parts.proofs.Structures.{not_structure}
use Rattle.vol_spell.specs.Reading.{IsFileNumber, owner_at, header_place, header_block, headers_at, head_told, told_of, chain_told, nobody, clusters_of, body_places, body_blocks}
use Rattle.vol_spell.specs.Spelling.{IsHead, Tells, dir_found, size_in, Spells}
use Rattle.vol_spell.specs.Views.{IsHeaderSet}
use Rattle.vol_spell.specs.Kinds.{IsHeaderFor}
use Rattle.vol_spell.proofs.Heads.{first_reads, first_there, none_told}
use Rattle.vol_spell.proofs.HeadSlots.{no_parts, dir_alone}
use Rattle.vol_spell.proofs.Parts.{slot_there, told, part_owned}
use Rattle.vol_spell.proofs.Frames.{on_volume, of_body, apart_by}
use Rattle.vol_spell.proofs.Placing.{blocks_stay, index-set_here}
use Rattle.vol_spell.proofs.Moving.{still}
use Rattle.vol_spell.proofs.Viewing.{header_set}
use Rattle.vol_spell.proofs.Keeping.{header_write}
use Rattle.vol_mends.specs.Told.{LeadsTo, IsSingle, KeepsSingles}
use Rattle.vol_mends.specs.Surplus.{unlinked, IsCutAt, AreMerged, IsChainCut}
use Rattle.vol_mends.specs.Tails.{IsForSurplus, IsSurplusCut, SurplusIsCut}
use Rattle.vol_mends.proofs.Merging.{whole_now, clusters_now, lbns_now, blocks_now}
use Rattle.vol_mends.proofs.Surplus.{ends_says, ends_has, last_is_cut}
use Rattle.vol_mends.proofs.WriteTold.{Owned, owned, unchanged, home_left}
use Rattle.vol_mends.proofs.OneWrite.{doubles_told, single_same}

each_has : (o : Option Hdr) (b : Block) → All HasBlocks (runs_with o b)
each_has None b = All-nil HasBlocks
each_has (Some f) b = runs-some b

-- a slot with these fields is used by them
pub used_is : (r : Result Head HeaderFault) (x : Hdr) → fields_in r ≡ Some x → r ≡ Ok (head.Used x)
used_is (Ok (head.Used y)) x e = let one : y ≡ x = cc e in ap (λ (z : Hdr). Ok (head.Used z)) one
used_is (Ok (head.Free seq)) x e = absurd (cc e)
used_is (Err fault) x e = absurd (cc e)

-- the first header of the file after the cut says the same of it
record IsLike (g : Geometry) (n : ℕ) (f first : Hdr) : Type 0 where
  num : first.num ≡ f.num
  blocks : first.blocks ≡ f.blocks
  dir : first.dir ≡ f.dir
  slot : (bl : List Block) → slot_with g.cluster n (Ok (head.Used first)) bl ≡ slot_with g.cluster n (Ok (head.Used f)) bl
  double : (bl : List Block) → is_double_dir (Some first) bl ≡ is_double_dir (Some f) bl

like_same : (g : Geometry) (n : ℕ) (f : Hdr) → IsLike g n f f
like_same g n f = record { num = refl; blocks = refl; dir = refl; slot = λ bl. refl; double = λ bl. refl }

like_unlinked : (g : Geometry) (n : ℕ) (f : Hdr) → IsLike g n f (unlinked f)
like_unlinked g n f = record { num = refl; blocks = refl; dir = refl; slot = λ bl. refl; double = λ bl. refl }

-- a first header after the cut
record IsFirstNow (g : Geometry) (new : List Block) (n : ℕ) (f : Hdr) : Type 0 where
  first : Hdr
  like : IsLike g n f first
  reads : head_told (header_block g new n) ≡ Ok (head.Used first)

module _ (g : Geometry) (bs : List Block) (c : Cat) (n : ℕ) (f : Hdr) (m : ℕ) (x : Hdr) (rest : ℕ) (b : Block) (for : IsForSurplus g bs c n f m x rest b) where
  abbrev o : Owned g bs c
  o = owned g bs c for.told

  abbrev new : List Block
  new = slice_set bs (header_place g m) b

  number : IsFileNumber g n
  number = for.number

  reads_f : header_read (header_block g bs n) ≡ Ok (head.Used f)
  reads_f = first_reads (header_block g bs n) f for.first

  says_f : (headers_at g bs).says n ≡ Some f
  says_f = ap fields_in reads_f

  reads_x : header_read (header_block g bs m) ≡ Ok (head.Used x)
  reads_x = used_is (header_read (header_block g bs m)) x (ends_says (headers_at g bs) most_headers n f f.blocks m x rest says_f for.ends).0

  other_block : (i : ℕ) → i ≢ m → header_block g new i ≡ header_block g bs i
  other_block i other = get_or-set_other bs (header_place g m) (header_place g i) b [] (λ e. other (omega (arith, e)))

  told_f : told_of g bs n ≡ told_with (Ok (head.Used f)) (chain_of (headers_at g bs) n f)
  told_f = ap (told_by (headers_at g bs) n) for.first

  tells : Tells g o.own n (told_of g bs n) (body_blocks bs n (told_of g bs n)) (get_or c.files (n - 1) (slot.Free 0))
  tells = told g bs o.own c o.spells n number

  -- the last slot is the file's
  in_slots : Has (told_of g bs n).slots m
  in_slots = subst (λ (t : Told). Has t.slots m) (sym told_f) (ends_has (headers_at g bs) most_headers n f f.blocks m x rest for.ends)

  pub number_m : IsFileNumber g m
  number_m = ((tells.slots m).0 in_slots).0

  owned_m : slice_get o.own.numbers (m - 1) ≡ Some (InFile n)
  owned_m = ((tells.slots m).0 in_slots).1

  pub on : header_place g m < length bs
  on = on_volume g bs o.own c o.spells (header_place g m) (InFile 1) (part_owned g bs o.own c o.spells (Header m) number_m)

  block_now : header_block g new m ≡ b
  block_now = index-set_here bs (header_place g m) b on

  cut_at : IsCutAt (headers_at g bs) (headers_at g new) m x rest
  cut_at = record {
    files = refl;
    says = ap (λ (y : Block). fields_in (header_read y)) block_now ∙ ap fields_in for.reads;
    lists = ap (λ (y : Block). runs_with (fields_in (header_read y)) y) block_now
        ∙ (ap (λ r. runs_with (fields_in r) b) for.reads ∙ (for.runs ∙ ap (λ r. merged (cut rest (runs_with (fields_in r) (header_block g bs m)))) (sym reads_x)));
    some = λ i. each_has (fields_in (header_read (header_block g new i))) (header_block g new i);
    others = λ i other.
        let e = other_block i other in
        record { says = ap (λ (y : Block). fields_in (header_read y)) e; lists = ap (λ (y : Block). runs_with (fields_in (header_read y)) y) e };
  }

  -- the first header
  first_now : IsFirstNow g new n f
  first_now = by (same_or_not n m) where
    by : (n ≡ m) ⊎ (n ≢ m) → IsFirstNow g new n f
    by (inl same) =
        let both : Ok (head.Used f) ≡ Ok (head.Used x) = sym reads_f ∙ (ap (λ i. header_read (header_block g bs i)) same ∙ reads_x) in
        let one : f ≡ x = cc both in
        let zero : f.seg ≡ 0 = (first-is (header_read (header_block g bs n)) f (ap fields_in for.first)).1 in
        record {
          first = unlinked f;
          like = like_unlinked g n f;
          reads = ap (λ i. head_told (header_block g new i)) same ∙ (ap head_told block_now ∙ (ap as_first (for.reads ∙ ap (λ (y : Hdr). Ok (head.Used (unlinked y))) (sym one)) ∙ first-used (unlinked f) zero));
        }
    by (inr other) = record { first = f; like = like_same g n f; reads = ap head_told (other_block n other) ∙ for.first }

  abbrev first : Hdr
  first = first_now.first

  like : IsLike g n f first_now.first
  like = first_now.like

  told_first : told_of g new n ≡ told_with (Ok (head.Used first_now.first)) (chain_of (headers_at g new) n first_now.first)
  told_first = ap (told_by (headers_at g new) n) first_now.reads

  chain_cut : IsChainCut (chain_of (headers_at g bs) n f) (chain_of (headers_at g new) n first_now.first)
  chain_cut =
      last_is_cut (headers_at g bs) (headers_at g new) n f first_now.first m x rest says_f for.ends cut_at
      (ap fields_in (first_reads (header_block g new n) first_now.first first_now.reads)) like.blocks

  slots_now : (told_of g new n).slots ≡ (told_of g bs n).slots
  slots_now = ap (λ (t : Told). t.slots) told_first ∙ (chain_cut.slots ∙ ap (λ (t : Told). t.slots) (sym told_f))

  runs_now : AreMerged (told_of g bs n).runs (told_of g new n).runs
  runs_now =
      subst (λ (t : Told). AreMerged t.runs (told_of g new n).runs) (sym told_f)
      (subst (λ (t : Told). AreMerged (chain_of (headers_at g bs) n f).runs t.runs) (sym told_first) chain_cut.runs)

  split_now : is_well_split g.cluster (chain_told (told_of g new n)) ≡ is_well_split g.cluster (chain_told (told_of g bs n))
  split_now = ap (λ (t : Told). is_well_split g.cluster (chain_told t)) told_first ∙ (chain_cut.split g.cluster ∙ ap (λ (t : Told). is_well_split g.cluster (chain_told t)) (sym told_f))

  low : 1 ≤ g.cluster
  low = o.spells.counts.geometry.cluster_from

  clusters_same : clusters_of g.cluster (told_of g new n).runs ≡ clusters_of g.cluster (told_of g bs n).runs
  clusters_same = clusters_now g low (told_of g bs n).runs (told_of g new n).runs runs_now tells.whole

  -- a directory has no surplus
  plain : f.dir ≡ false
  plain = by_dir f.dir refl where
    by_dir : (t : Bool) → f.dir ≡ t → f.dir ≡ false
    by_dir false e = e
    by_dir true e =
        let found : dir_found g n (Some f) (told_of g bs n) (body_blocks bs n (told_of g bs n)) ≡ None =
        ap (λ r. dir_found g n (fields_in r) (told_of g bs n) (body_blocks bs n (told_of g bs n))) (sym for.first) ∙ tells.dir in
        let one = dir_alone g n f (told_of g bs n) (body_blocks bs n (told_of g bs n)) e found in
        let parts = and_parts (f.ext == 0) (not (told_of g bs n).surplus && (blocks_in (told_of g bs n).runs == f.blocks)) one in
        let last = and_parts (not (told_of g bs n).surplus) (blocks_in (told_of g bs n).runs == f.blocks) parts.1 in
        let both : false ≡ true = sym (ap not for.surplus) ∙ last.0 in
        absurd (cc both)

  head_now : (told_of g new n).head ≡ Ok (head.Used first_now.first)
  head_now = first_now.reads

  places_now : body_places n (told_of g new n) ≡ body_places n (told_of g bs n)
  places_now = ap (λ (ls : List ℕ). cond (is_structure n) [] ls) (lbns_now (told_of g bs n).runs (told_of g new n).runs runs_now)

  body_was : body_blocks bs n (told_of g new n) ≡ body_blocks bs n (told_of g bs n)
  body_was = ap (blocks_at bs) places_now

  body_now : body_blocks new n (told_of g new n) ≡ body_blocks bs n (told_of g bs n)
  body_now =
      ap (blocks_at new) places_now ∙ blocks_stay bs (header_place g m) b (body_places n (told_of g bs n)) (λ t. away (of_body g bs o.own c o.spells n (header_place g m) number t).owned)
    where
      away : owner_at g o.own (header_place g m) ≡ Some (InFile n) → ⊥
      away at =
          let above = for.above in
          apart_by g o.own (header_place g m) (header_place g m) (InFile 1) (InFile n) (part_owned g bs o.own c o.spells (Header m) number_m) at (λ e. let one : 1 ≡ n = cc e in omega (arith, one, above)) refl

  abbrev old : Slot
  old = get_or c.files (n - 1) (slot.Free 0)

  tells_now : Tells g o.own n (told_of g new n) (body_blocks bs n (told_of g new n)) old
  tells_now =
      let bl = body_blocks bs n (told_of g bs n) in
      let bl' = body_blocks bs n (told_of g new n) in
      record {
        reads = subst (IsHead n) (sym head_now) (like.num ∙ subst (IsHead n) for.first tells.reads);
        whole = whole_now g low (told_of g bs n).runs (told_of g new n).runs runs_now tells.whole;
        once = subst Once (sym clusters_same) tells.once;
        runs = λ q. subst (λ (qs : List ℕ). Has qs q ↔ (slice_get o.own.clusters q ≡ Some (InFile n))) (sym clusters_same) (tells.runs q);
        few = λ high. subst (λ (qs : List ℕ). length qs ≤ file_most) (sym clusters_same) (tells.few high);
        split = λ high. split_now ∙ tells.split high;
        system = λ up. let high = for.above in absurd (omega (arith, up, high));
        slots = λ i. subst (λ (ns : List ℕ). Has ns i ↔ (IsFileNumber g i × (slice_get o.own.numbers (i - 1) ≡ Some (InFile n)))) (sym slots_now) (tells.slots i);
        size = blocks_now (told_of g bs n).runs (told_of g new n).runs runs_now
            ∙ (tells.size ∙ (ap (λ r. size_in (fields_in r)) for.first ∙ (sym like.blocks ∙ ap (λ r. size_in (fields_in r)) (sym head_now))));
        dir = ap (λ r. dir_found g n (fields_in r) (told_of g new n) bl') head_now
            ∙ ap (λ d. cond (not d) None (cond (is_one_header first_now.first (told_of g new n) && has_dir_size g.cluster first_now.first (told_of g new n).runs) (found_in n (directory bl')) (Some (finding.DirSize n)))) (like.dir ∙ plain);
        slot = ap (λ r. slot_with g.cluster n r bl') head_now
            ∙ (like.slot bl' ∙ (ap (λ ys. slot_with g.cluster n (Ok (head.Used f)) ys) body_was ∙ (ap (λ r. slot_with g.cluster n r bl) (sym for.first) ∙ tells.slot)));
      }

  -- the last slot, where it is another than the first, tells no file
  later : m ≢ n → (x.seg == 0) ≡ false
  later other = by_seg (x.seg == 0) refl where
    by_seg : (t : Bool) → (x.seg == 0) ≡ t → (x.seg == 0) ≡ false
    by_seg false e = e
    by_seg true e =
        let first : as_first (Ok (head.Used x)) ≡ Ok (head.Used x) = rw e refl in
        let used : is_some (fields_in (head_told (header_block g bs m))) ≡ true = ap (λ (r : Result Head HeaderFault). is_some (fields_in r)) (ap as_first reads_x ∙ first) in
        let mine = (((told g bs o.own c o.spells m number_m).slots m).0 (first_there g bs m used)).1 in
        let both : Some (InFile m) ≡ Some (InFile n) = sym mine ∙ owned_m in
        absurd (other (cc both))

  none_before : m ≢ n → told_of g bs m ≡ nobody x.seq
  none_before other = let e = later other in none_told g bs m x.seq (ap as_first reads_x ∙ (rw e refl))

  none_now : m ≢ n → told_of g new m ≡ nobody x.seq
  none_now other = let e = later other in none_told g new m x.seq (ap head_told block_now ∙ (ap as_first for.reads ∙ (rw e refl)))

  header_for : IsHeaderFor g bs 0 n m o.own o.own c b old
  header_for = record {
    whole = for.whole;
    number = number;
    slot = inr in_slots;
    owned = subst (IsFileMove 0 n) (sym owned_m) refl;
    head = subst (IsHead m) (sym for.reads) (subst (IsHead m) reads_x (o.spells.slots.heads m number_m));
    alike = λ other. none_now other ∙ sym (none_before other);
    parts = no_parts n (not_structure n for.above);
    moves = record { clusters = still (IsFileMove 0 n) o.own.clusters; numbers = still (IsFileMove 0 n) o.own.numbers };
    tells = tells_now;
    reserved = λ was low at. let high = for.above in absurd (omega (arith, low, high));
  }

  same_cat : with_slot c n old ≡ c
  same_cat = ap (λ (ss : List Slot). record c { files = ss }) (set_same c.files (n - 1) old (slot_there g bs o.own c o.spells n number))

  spelt : Spells g new o.own c
  spelt = subst (λ (z : Cat). Spells g new o.own z) same_cat (header_write g bs o.own o.own c 0 n m b old o.spells header_for)

  set : IsHeaderSet g bs new n m b
  set = header_set g bs o.own o.own c 0 n m b old o.spells header_for

  home_apart : 1 ≢ header_place g m
  home_apart e = let low = o.spells.counts.geometry.cluster_from in omega (arith, e, low)

  cut_leads : LeadsTo g bs c c new
  cut_leads = unchanged g bs new o.own c for.told spelt o.outs (home_left bs (header_place g m) b home_apart)

  cut_singles : KeepsSingles g bs new
  cut_singles i is single = by (same_or_not i n) (same_or_not i m) where
    here : IsSingle g bs n → IsSingle g new n
    here h =
        doubles_told [] g new o.own c spelt n number
        ∙ (ap (λ r. is_double_dir (fields_in r) (body_blocks new n (told_of g new n))) head_now
        ∙ (like.double (body_blocks new n (told_of g new n)) ∙ (ap (λ ys. is_double_dir (Some f) ys) body_now
        ∙ (ap (λ r. is_double_dir (fields_in r) (body_blocks bs n (told_of g bs n))) (sym for.first) ∙ (sym (doubles_told [] g bs o.own c o.spells n number) ∙ h)))))

    none : m ≢ n → IsSingle g new m
    none other =
        doubles_told [] g new o.own c spelt m number_m
        ∙ ap (λ (d : Told). is_double_dir (fields_in d.head) (body_blocks new m (told_of g new m))) (none_now other)

    by : (i ≡ n) ⊎ (i ≢ n) → (i ≡ m) ⊎ (i ≢ m) → IsSingle g new i
    by (inl same) any = subst (λ k. IsSingle g new k) (sym same) (here (subst (λ k. IsSingle g bs k) same single))
    by (inr other) (inl same) = subst (λ k. IsSingle g new k) (sym same) (none (λ e. other (same ∙ e)))
    by (inr other) (inr apart) = single_same g bs new o.own o.own c c o.spells spelt i is (set.others i is other apart) single

  others_now : (i : ℕ) → IsFileNumber g i → i ≢ n → told_of g new i ≡ told_of g bs i
  others_now i is other = by (same_or_not i m) where
    by : (i ≡ m) ⊎ (i ≢ m) → told_of g new i ≡ told_of g bs i
    by (inl same) = subst (λ k. told_of g new k ≡ told_of g bs k) (sym same) (header_for.alike (λ e. other (same ∙ e)))
    by (inr apart) = (set.others i is other apart).told

  surplus_cut : IsSurplusCut g bs c n new
  surplus_cut = record {
    leads = cut_leads;
    singles = cut_singles;
    surplus = ap (λ (t : Told). t.surplus) told_first ∙ chain_cut.surplus;
    slots = slots_now;
    others = others_now;
  }

pub surplus_is_cut : SurplusIsCut
surplus_is_cut = surplus_cut
