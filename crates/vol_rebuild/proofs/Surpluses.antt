-- The surplus of a file, and the header of a file that is cut.
use Rattle.std.proofs.Common.{◌≡◌, ◌≢◌, ◌∙◌, ◌≤◌, ◌<◌, ◌+◌, ◌*◌, ◌-◌, ◌==◌, ◌&&◌, ◌||◌, ◌⊎◌, ◌++◌, inl, inr, nat_lt, not, ℕ, suc, true, false, List, [], ◌∷◌, Option, Some, None, Ok, All, get_or, length, slice_set, refl, sym, ap, subst, arith}
use Rattle.std.proofs.Math.Nat.{div-mul-le_self, mul-le-mul_right}
use Rattle.std.proofs.lemmas.Bool.{cases_lt, and_parts, eq-eqb}
use Rattle.std.proofs.lemmas.List.Elements.{All-nil, All-cons, All-head, All-tail}
use Rattle.base_words.specs.Fields.{Block, IsWholeBlock}
use Rattle.base_words.specs.Lists.{Has}
use Rattle.base_words.proofs.Listing.{same_or_not}
use Rattle.fx_home.specs.declared.home.Home.{Home}
use Rattle.fx_home.specs.Homes.{home_read}
use Rattle.fx_header.specs.declared.run.Run.{Run}
use Rattle.fx_header.specs.declared.slot.Hdr.{Hdr}
use Rattle.fx_header.specs.declared.slot.Slot.TheVariants.{Used}
use Rattle.fx_header.specs.Headers.{header_read, has_offsets, has_map, map_area, runs_in, HasRoom}
use Rattle.fx_header.specs.Pointers.{IsRun, AreRuns, merged, map_words, blocks_in}
use Rattle.fx_header.proofs.SoundLemmas.{reads-sound, areas-of}
use Rattle.fx_header.proofs.SpellLemmas.{AreRuns-merged}
use Rattle.plain_cat.specs.declared.cat.Cat.{Cat}
use Rattle.plain_cat.specs.declared.cat.Slot.TheVariants as slot
use Rattle.plain_rules.specs.Lookups.{header_most}
use Rattle.vol_parts.specs.declared.geometry.Geometry.{Geometry}
use Rattle.vol_parts.specs.Chains.{most_headers, cut, chain_of, is_broken, is_well_split}
use Rattle.vol_parts.specs.ChainLaws.{HasBlocks, IsSameSlot}
use Rattle.vol_parts.specs.Fatal.{is_one_header}
use Rattle.vol_parts.specs.Findings.{home_at}
use Rattle.vol_parts.specs.Volumes.{Volume, IsNumber, headers_of, Told, volume, fields_in, fields, runs_with, chain_from, told_with, told_by, told as told_in}
use Rattle.vol_parts.proofs.Alone.{file_told}
use Rattle.vol_parts.proofs.Cuts.{cut-some, cut-counts}
use Rattle.vol_parts.proofs.Listed.{runs-some}
use Rattle.vol_spell.specs.Reading.{IsFileNumber, total_of, header_place, header_block, headers_at, head_told, fields_told, told_of, chain_told, body_blocks, clusters_of}
use Rattle.vol_spell.specs.Spelling.{AreWhole, size_in, has_one_at_most, Tells}
use Rattle.vol_spell.proofs.Heads.{used_first, first_reads}
use Rattle.vol_spell.proofs.Parts.{told}
use Rattle.vol_spell.proofs.Runs.{size_of_runs}
use Rattle.vol_mends.specs.Told.{IsTold}
use Rattle.vol_mends.specs.Surplus.{unlinked, EndsAt}
use Rattle.vol_mends.specs.Tails.{IsForSurplus, IsSurplusCut}
use Rattle.vol_mends.proofs.Cutting.{used_is, number_m, surplus_is_cut}
use Rattle.vol_spell.proofs.RunRows.{whole_back}
use Rattle.vol_mends.proofs.Merging.{whole_merged, clusters_merged, short_pointers}
use Rattle.vol_mends.proofs.Surplus.{ends_says, ends_has}
use Rattle.vol_mends.proofs.Views.{v, v_head, v_told}
use Rattle.vol_mends.proofs.WriteTold.{Owned, owned, home_told}
use Rattle.vol_rebuild.specs.declared.surplus.CutHeader.{CutHeader}
use Rattle.vol_rebuild.specs.Tails.{HasNoSurplus, IsLast, IsCutFor, IsFileCut, AreFilesCut, AreTailsClear}
use Rattle.vol_rebuild.proofs.Lasts.{ends_same, ends_in, surplus_is, runs_end, rest_few}

-- so many whole clusters are no more than these
no_more_than : (k w : ℕ) → 1 ≤ w → k * w ≤ header_most * w → k ≤ header_most
no_more_than k w low le = by (cases_lt header_most k) where
  by : (header_most < k) ⊎ (k ≤ header_most) → k ≤ header_most
  by (inr few) = few
  by (inl many) =
      let more : suc header_most * w ≤ k * w = mul-le-mul_right w (omega (arith, many)) in
      absurd (omega (arith, more, le, low))

-- whole runs that have blocks are runs that a header can list
are_runs : (g : Geometry) (rs : List Run) → g.blocks ≤ 65536 → AreWhole g rs → All HasBlocks rs → AreRuns rs
are_runs g [] top w some = All-nil IsRun
are_runs g (r ∷ rs) top w some =
    let inside = w.0.inside in
    let all : total_of g * g.cluster ≤ g.blocks = div-mul-le_self g.blocks g.cluster in
    let turned : g.cluster * total_of g ≡ total_of g * g.cluster = omega arith in
    All-cons IsRun r rs (All-head HasBlocks r rs some, omega (arith, inside, all, turned, top)) (are_runs g rs top w.1 (All-tail HasBlocks r rs some))

module _ (g : Geometry) (bs : List Block) (c : Cat) (t : IsTold g bs c) (home : Home) (read : home_read (home_at bs) ≡ Ok home) (n : ℕ) (is : IsFileNumber g n) where
  abbrev o : Owned g bs c
  o = owned g bs c t

  home_is : home ≡ record { cluster = g.cluster; files = g.files; label = home.label }
  home_is = home_told g bs o.own c o.spells home read

  told_is : told_in (volume home bs) n ≡ told_of g bs n
  told_is = ap (λ (x : Home). told_in (volume x bs) n) home_is ∙ v_told home.label g bs o.own c o.spells n is

  fields_is : fields (volume home bs) n ≡ fields_told (header_block g bs n)
  fields_is = ap (λ (x : Told). fields_in x.head) told_is

  -- what is no file has no surplus
  pub none_cut : fields (volume home bs) n ≡ None → HasNoSurplus g bs n
  none_cut e = ap (λ f. (chain_from (headers_at g bs) n f).surplus) (sym fields_is ∙ e)

  pub number : IsNumber (volume home bs) n
  number = let to = is.to in let files = ap (λ (x : Home). x.files) home_is in record { from = is.from; to = omega (arith, to, files) }

  module _ (f : Hdr) (used : fields (volume home bs) n ≡ Some f) where
    first : head_told (header_block g bs n) ≡ Ok (Used f)
    first = used_first (header_block g bs n) f (sym fields_is ∙ used)

    says : (headers_at g bs).says n ≡ Some f
    says = ap fields_in (first_reads (header_block g bs n) f first)

    chain_is : told_of g bs n ≡ told_with (Ok (Used f)) (chain_of (headers_at g bs) n f)
    chain_is = ap (told_by (headers_at g bs) n) first

    tells : Tells g o.own n (told_of g bs n) (body_blocks bs n (told_of g bs n)) (get_or c.files (n - 1) (slot.Free 0))
    tells = told g bs o.own c o.spells n is

    sized : blocks_in (told_of g bs n).runs ≡ f.blocks
    sized = tells.size ∙ ap (λ r. size_in (fields_in r)) first

    -- its chain is not broken
    pub whole : is_broken f (chain_of (headers_of (volume home bs)) n f) ≡ false
    whole =
        let same : told_in (volume home bs) n ≡ told_with (Ok (Used f)) (chain_of (headers_of (volume home bs)) n f) = file_told (volume home bs) n f used in
        let blocks : blocks_in (chain_of (headers_of (volume home bs)) n f).runs ≡ f.blocks = ap (λ (x : Told). blocks_in x.runs) (sym same ∙ told_is) ∙ sized in
        ap not (eq-eqb _ _ blocks)

    -- the walk along it by the volume is that by its blocks
    ends_by : (m : ℕ) (x : Hdr) (rest : ℕ) → EndsAt (headers_of (volume home bs)) most_headers n f f.blocks m x rest → EndsAt (headers_at g bs) most_headers n f f.blocks m x rest
    ends_by m x rest =
        subst (λ (y : Home). EndsAt (headers_of (volume y bs)) most_headers n f f.blocks m x rest → EndsAt (headers_at g bs) most_headers n f f.blocks m x rest) (sym home_is)
        (ends_same (headers_of seen) (headers_at g bs) most_headers n f f.blocks m x rest refl (λ i k. same i (record { from = k.from; to = k.to })) (record { from = is.from; to = is.to }))
      where
        seen : Volume
        seen = v home.label g bs o.own c o.spells

        same : (i : ℕ) → IsFileNumber g i → IsSameSlot (headers_of seen) (headers_at g bs) i
        same i k =
            let e = sym (v_head home.label g bs o.own c o.spells i k) in
            record { says = ap fields_in e; lists = ap (λ r. runs_with (fields_in r) (header_block g bs i)) e }

    -- ---- the last header

    module _ (m : ℕ) (x : Hdr) (rest : ℕ) (last : IsLast (headers_of (volume home bs)) most_headers n f f.blocks m x rest) where
      at : EndsAt (headers_at g bs) most_headers n f f.blocks m x rest
      at = ends_by m x rest last.ends

      abbrev b : Block
      b = header_block g bs m

      pub slot_number : IsFileNumber g m
      slot_number = ((tells.slots m).0 (subst (λ (z : Told). Has z.slots m) (sym chain_is) (ends_has (headers_at g bs) most_headers n f f.blocks m x rest at))).0

      pub reads : header_read (header_block g bs m) ≡ Ok (Used x)
      reads = used_is (header_read b) x (ends_says (headers_at g bs) most_headers n f f.blocks m x rest says at).0

      pub offsets : has_offsets (header_block g bs m) ≡ true
      offsets = (reads-sound b x reads).offsets

      pub map : has_map (header_block g bs m) ≡ true
      map = (reads-sound b x reads).map

      lists : (headers_at g bs).lists m ≡ runs_in (header_block g bs m)
      lists = ap (λ r. runs_with (fields_in r) b) reads

      surplus_by : (told_of g bs n).surplus ≡ (not (x.ext == 0) || nat_lt rest (blocks_in (runs_in (header_block g bs m))))
      surplus_by =
          ap (λ (z : Told). z.surplus) chain_is
          ∙ (surplus_is (headers_at g bs) n f m x rest says at ∙ ap (λ rs. not (x.ext == 0) || nat_lt rest (blocks_in rs)) lists)

      -- where it has no link and lists no more, the file has no surplus
      pub no_more : (not (x.ext == 0) || nat_lt rest (blocks_in (runs_in (header_block g bs m)))) ≡ false → HasNoSurplus g bs n
      no_more few = surplus_by ∙ few

      -- otherwise it has
      module _ (more : (not (x.ext == 0) || nat_lt rest (blocks_in (runs_in (header_block g bs m)))) ≡ true) where
        surplus : (told_of g bs n).surplus ≡ true
        surplus = surplus_by ∙ more

        above : 11 < n
        above = by_number (cases_lt 11 n) where
          by_number : (11 < n) ⊎ (n ≤ 11) → 11 < n
          by_number (inl high) = high
          by_number (inr low) =
              let one : is_one_header f (told_of g bs n) ≡ true = ap (λ r. has_one_at_most (fields_in r) (told_of g bs n)) (sym first) ∙ tells.system low in
              let parts = and_parts (f.ext == 0) (not (told_of g bs n).surplus && (blocks_in (told_of g bs n).runs == f.blocks)) one in
              let behind = and_parts (not (told_of g bs n).surplus) (blocks_in (told_of g bs n).runs == f.blocks) parts.1 in
              let both : false ≡ true = sym (ap not surplus) ∙ behind.0 in
              absurd (cc both)

        low : 1 ≤ g.cluster
        low = o.spells.counts.geometry.cluster_from

        -- the file's runs in it
        whole_rest : AreWhole g (cut rest (runs_in (header_block g bs m)))
        whole_rest =
            let all : (told_of g bs n).runs ≡ (ends_in (headers_at g bs) most_headers n f f.blocks m x rest at).front ++ cut rest ((headers_at g bs).lists m) =
            ap (λ (z : Told). z.runs) chain_is ∙ runs_end (headers_at g bs) n f m x rest says at in
            subst (λ rs. AreWhole g (cut rest rs)) lists
            (whole_back g (ends_in (headers_at g bs) most_headers n f f.blocks m x rest at).front (cut rest ((headers_at g bs).lists m)) (subst (AreWhole g) all tells.whole))

        are : AreRuns (cut rest (runs_in (header_block g bs m)))
        are = are_runs g (cut rest (runs_in b)) o.spells.counts.geometry.blocks_to whole_rest (cut-some rest (runs_in b) (runs-some b))

        -- it has no more clusters than a header can list
        few : length (clusters_of g.cluster (cut rest (runs_in (header_block g bs m)))) ≤ header_most
        few =
            let split = rest_few (headers_at g bs) n f m x rest says at g.cluster (subst (λ (z : Told). blocks_in z.runs ≡ f.blocks) chain_is sized)
            (subst (λ (z : Told). is_well_split g.cluster (chain_told z) ≡ true) chain_is (tells.split above)) in
            let count = cut-counts rest (runs_in b) in
            let size = size_of_runs g (cut rest (runs_in b)) low whole_rest in
            no_more_than (length (clusters_of g.cluster (cut rest (runs_in b)))) g.cluster low (omega (arith, split, count, size))

        fits : length (map_words (cut rest (runs_in (header_block g bs m)))) ≤ 2 * map_area (header_block g bs m)
        fits =
            let rs = cut rest (runs_in b) in
            let short = short_pointers g low (merged rs) o.spells.counts.geometry.cluster_to (whole_merged g low rs whole_rest) (AreRuns-merged rs are) in
            let same : length (clusters_of g.cluster (merged rs)) ≡ length (clusters_of g.cluster rs) = ap length (clusters_merged g low rs whole_rest) in
            let room = (areas-of b offsets).room in
            let most = few in
            omega (arith, short, same, room, most)

        -- and these have room in it
        pub room : HasRoom (header_block g bs m) (cut rest (runs_in (header_block g bs m)))
        room = (are, fits)

        -- a header that lists these runs alone, and has no link
        pub for_surplus : (b' : Block) → IsWholeBlock b' → header_read b' ≡ Ok (Used (unlinked x)) → runs_in b' ≡ merged (cut rest (runs_in (header_block g bs m))) → IsForSurplus g bs c n f m x rest b'
        for_surplus b' block says_so lists_so = record {
          told = t;
          number = is;
          above = above;
          first = first;
          surplus = surplus;
          ends = at;
          whole = block;
          reads = says_so;
          runs = lists_so;
        }

-- ---- file by file

-- the header that was cut by the blocks that were seen
cut_for : (g : Geometry) (bs seen : List Block) (c : Cat) (n : ℕ) (o : Option CutHeader) (cut : CutHeader) → seen ≡ bs → o ≡ Some cut → ((x : Cat) → IsTold g seen x → IsCutFor g seen x n o) → IsTold g bs c
    → IsCutFor g bs c n (Some cut)
cut_for g bs seen c n o cut same is for t =
    subst (λ (xs : List Block). IsCutFor g xs c n (Some cut)) same (subst (λ (p : Option CutHeader). IsCutFor g seen c n p) is (for c (subst (λ (xs : List Block). IsTold g xs c) (sym same) t)))

-- its slot is one of the volume
pub cut_slot : (g : Geometry) (bs seen : List Block) (c : Cat) (n : ℕ) (o : Option CutHeader) (cut : CutHeader) → seen ≡ bs → o ≡ Some cut → ((x : Cat) → IsTold g seen x → IsCutFor g seen x n o) → IsTold g bs c
    → IsFileNumber g cut.slot
cut_slot g bs seen c n o cut same is for t = let x = cut_for g bs seen c n o cut same is for t in number_m g bs c n x.0 cut.slot x.1 x.2 cut.block x.3

-- and its write
pub cut_at : (g : Geometry) (bs seen : List Block) (c : Cat) (n : ℕ) (o : Option CutHeader) (cut : CutHeader) → seen ≡ bs → o ≡ Some cut → ((x : Cat) → IsTold g seen x → IsCutFor g seen x n o) → IsTold g bs c
    → IsSurplusCut g bs c n (slice_set bs (header_place g cut.slot) cut.block)
cut_at g bs seen c n o cut same is for t = let x = cut_for g bs seen c n o cut same is for t in surplus_is_cut g bs c n x.0 cut.slot x.1 x.2 cut.block x.3

-- no file was cut
pub uncut_at : (g : Geometry) (bs seen : List Block) (c : Cat) (n : ℕ) (o : Option CutHeader) → seen ≡ bs → o ≡ None → ((x : Cat) → IsTold g seen x → IsCutFor g seen x n o) → IsTold g bs c → HasNoSurplus g bs n
uncut_at g bs seen c n o same is for t =
    subst (λ (xs : List Block). IsCutFor g xs c n None) same (subst (λ (p : Option CutHeader). IsCutFor g seen c n p) is (for c (subst (λ (xs : List Block). IsTold g xs c) (sym same) t)))

pub file_stays : (g : Geometry) (bs : List Block) (c : Cat) (n : ℕ) → IsTold g bs c → HasNoSurplus g bs n → IsFileCut g c bs bs n
file_stays g bs c n t none = record { told = t; singles = λ i is k. k; cut = none; others = λ i is other. refl }

pub file_cut : (g : Geometry) (bs new : List Block) (c : Cat) (n : ℕ) → IsSurplusCut g bs c n new → IsFileCut g c bs new n
file_cut g bs new c n s = record { told = s.leads.told; singles = s.singles; cut = s.surplus; others = s.others }

-- one file more has no surplus
pub cut_more : (g : Geometry) (bs new : List Block) (c : Cat) (n : ℕ) → ((i : ℕ) → 1 ≤ i → i < n → i ≤ g.files → HasNoSurplus g bs i) → IsFileCut g c bs new n
    → (i : ℕ) → 1 ≤ i → i < n + 1 → i ≤ g.files → HasNoSurplus g new i
cut_more g bs new c n before s i from to last = by (same_or_not i n) where
  by : (i ≡ n) ⊎ (i ≢ n) → HasNoSurplus g new i
  by (inl same) = subst (λ k. HasNoSurplus g new k) (sym same) s.cut
  by (inr other) =
      ap (λ (x : Told). x.surplus) (s.others i (record { from = from; to = last }) other) ∙ before i from (omega (arith, to, other)) last

-- surplus, and then strays
pub tails_after : (g : Geometry) (old bs new : List Block) (c : Cat) → AreFilesCut g c old bs → AreTailsClear g c bs new → AreTailsClear g c old new
tails_after g old bs new c cut clear = record { told = clear.told; singles = λ i is k. clear.singles i is (cut.singles i is k); clean = clear.clean }
