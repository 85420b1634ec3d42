-- The last and the first header of a file that gets clusters are steps.
use Rattle.std.proofs.Common.{◌≡◌, ◌≢◌, ◌∙◌, ◌-◌, ◌++◌, ℕ, false, List, [], ◌∷◌, Option, Some, None, take, length, slice_set, refl, sym, ap, subst, inl, inr, arith, length-append}
use Rattle.std.proofs.lemmas.List.{take_at}
use Rattle.base_words.specs.Fields.{Block}
use Rattle.base_words.specs.Lists.{Has}
use Rattle.fx_header.specs.declared.run.Run.{Run}
use Rattle.fx_header.specs.declared.slot.Hdr.{Hdr}
use Rattle.fx_header.specs.Headers.{runs_in}
use Rattle.fx_header.specs.Pointers.{merged}
use Rattle.plain_cat.specs.declared.cat.Cat.{Cat}
use Rattle.plain_cat.specs.declared.cat.File.{File}
use Rattle.plain_cat.specs.declared.cat.Slot.TheVariants as slot
use Rattle.plain_cat.specs.declared.history.Stage.TheVariants as stage
use Rattle.plain_rules.specs.Changes.{with_file, with_slot, grown}
use Rattle.vol_parts.specs.declared.geometry.Geometry.{Geometry}
use Rattle.vol_parts.specs.Chains.{Headers}
use Rattle.vol_parts.specs.ChainLaws.{IsSameSlot}
use Rattle.lock_db.specs.declared.name.LockName.TheVariants.{S}
use Rattle.vol_spell.specs.Kinds.{IsHeaderFor}
use Rattle.vol_spell.specs.Owners.{Owners, nothing}
use Rattle.vol_spell.specs.Reading.{header_place, header_block, headers_at, told_of, clusters_told}
use Rattle.vol_spell.specs.Spelling.{Spells}
use Rattle.vol_spell.proofs.Heads.{first_segment}
use Rattle.vol_spell.proofs.Placing.{index-set_here}
use Rattle.vol_spell.proofs.Slots.{slot_same}
use Rattle.vol_under.specs.Chains.{End}
use Rattle.op_law.specs.declared.need.PlanWrite.{PlanWrite}
use Rattle.op_law.specs.Fits.{things}
use Rattle.op_law.specs.Headers.{grown_first, grown_last, link_to}
use Rattle.op_law.specs.Refusing.{SeenFile}
use Rattle.op_law.specs.Writing.{holding, header_write, runs_for}
use Rattle.op_steps.specs.Chained.{Chain, StepsOf, StageOf, StandsOn}
use Rattle.op_steps.specs.GrownWrites.{number_of, CanGrow}
use Rattle.op_steps.proofs.ChainFiles.{slot_on, slot_stays}
use Rattle.op_steps.proofs.GrownChain.{AreGrown}
use Rattle.op_steps.proofs.GrownFacts.{seen, end, linked, last_is, IsReady}
use Rattle.op_steps.proofs.FileNow.{IsNow}
use Rattle.op_steps.proofs.GrownOwners.{grown_owners, new_apart}
use Rattle.op_steps.proofs.HeaderBlocks.{IsHeaderOf, says_so, lists_last}
use Rattle.op_steps.proofs.HeadSteps.{IsPartWritten, part_steps}
use Rattle.op_steps.proofs.LeadMoves.{IsLastSet, IsFirstSet, lead_first}
use Rattle.op_steps.proofs.Leading.{Lead, IsLast, last_less}
use Rattle.vol_spell.proofs.Heads.{first_reads}
use Rattle.op_steps.proofs.ChainFiles.{slot_whole}
use Rattle.op_steps.proofs.GrownFacts.{within_last}
use Rattle.op_steps.proofs.GrownFirst.{all_blocks, dir, first_is, grown_fields, has_all, linked_for, last_steps}
use Rattle.op_steps.proofs.HeadersFor.{chain_clusters}
use Rattle.op_steps.proofs.LastHeaders as last
use Rattle.op_steps.proofs.LeadMoves.{IsSameLink}

-- ---- the last header, and the first one

-- a slot that stays twice
then_stays : (a b c : Headers) (i : ℕ) → IsSameSlot a b i → IsSameSlot b c i → IsSameSlot a c i
then_stays a b c i first behind = record { says = behind.says ∙ first.says; lists = behind.lists ∙ first.lists }

-- where there are others than the first one
module _ (k : Chain) (n : ℕ) (h : Hdr) (f : File) (qs : List ℕ) (new : Option (ℕ × ℕ)) (x : Cat) (bs : List Block) (own : Owners) (on : StandsOn k (holding qs (number_of new)) x bs own) (can : CanGrow k.geometry bs f qs new)
    (i : ℕ) (is : List ℕ) (m : ℕ) (y : Hdr) (cs ds : List ℕ) (now : IsNow k.geometry own x n h f bs (i ∷ is) m y cs ds) (bs1 : List Block) (ready : IsReady k n h f qs new x bs own on (i ∷ is) m y cs ds now can.slot bs1) where
  abbrev g' : Geometry
  g' = k.geometry

  abbrev s' : SeenFile
  s' = seen k n h f qs new x bs own on (i ∷ is) m y cs ds now can.slot

  abbrev hs1 : Headers
  hs1 = headers_at k.geometry bs1

  now1 : IsNow k.geometry own x n h f bs1 (i ∷ is) m y cs ds
  now1 = ready.now1

  abbrev b : Block
  b = grown_last k.geometry s' (header_block k.geometry bs m) qs new

  abbrev y2 : Hdr
  y2 = linked k n h f qs new x bs own on (i ∷ is) m y cs ds now can.slot

  abbrev bs2 : List Block
  bs2 = slice_set bs1 (header_place k.geometry m) b

  abbrev hs2 : Headers
  hs2 = headers_at k.geometry bs2

  abbrev listed : List Run
  listed = merged (runs_for k.geometry (ds ++ take (77 - length ds) qs))

  b_is : IsHeaderOf b y2 listed
  b_is = last_is k n h f qs new x bs own on (i ∷ is) m y cs ds now can.slot

  same_y : IsSameLink y y2
  same_y = record { num = refl; seq = refl; seg = refl }

  -- it lists the file's clusters first
  lists_ds : (hs : Headers) → hs.lists m ≡ listed → IsLast k.geometry hs m ds
  lists_ds hs lists =
      let all = ds ++ take (77 - length ds) qs in
      let whole : IsLast g' hs m all = lists_last g' all on.spelt.counts.geometry (within_last k n h f qs new x bs own on (i ∷ is) m y cs ds now can.slot) hs m lists in
      let joined = length-append ds (take (77 - length ds) qs) in
      subst (λ rs. IsLast g' hs m rs) (take_at ds (take (77 - length ds) qs) (length ds) refl) (last_less g' hs m (length ds) all on.spelt.counts.geometry.cluster_from (omega arith) whole)

  flat : h.dir ≡ false
  flat = dir k n h f qs new x bs own on can (i ∷ is) m y cs ds now

  behind : Has (i ∷ is) m
  behind = last.behind g' own x n h f bs1 i is m y cs ds now1 flat b y2 listed b_is same_y lists_ds

  other : m ≢ n
  other = last.other g' own x n h f bs1 i is m y cs ds now1 flat b y2 listed b_is same_y lists_ds

  set2 : IsLastSet hs1 hs2 m y y2
  set2 = last.set g' own x n h f bs1 i is m y cs ds now1 flat b y2 listed b_is same_y lists_ds

  first2 : header_block k.geometry bs2 n ≡ header_block k.geometry bs1 n
  first2 = last.first_kept g' own x n h f bs1 i is m y cs ds now1 flat b y2 listed b_is same_y lists_ds

  so2 : (hs2.says m ≡ Some y2) × (hs2.lists m ≡ listed)
  so2 = last.last_says g' own x n h f bs1 i is m y cs ds now1 flat b y2 listed b_is same_y lists_ds

  says2 : hs2.says n ≡ Some h
  says2 = last.says g' own x n h f bs1 i is m y cs ds now1 flat b y2 listed b_is same_y lists_ds

  lead2 : Lead k.geometry hs2 n h (i ∷ is) m y2 cs
  lead2 = last.lead g' own x n h f bs1 i is m y cs ds now1 flat b y2 listed b_is same_y lists_ds

  clusters2 : clusters_told k.geometry (told_of k.geometry bs2 n) ≡ cs ++ ds
  clusters2 =
      chain_clusters g' bs2 n h (n ∷ i ∷ is) (cs ++ ds) on.spelt.counts.geometry.cluster_from (last.reads g' own x n h f bs1 i is m y cs ds now1 flat b y2 listed b_is same_y lists_ds)
      (last.has g' own x n h f bs1 i is m y cs ds now1 flat b y2 listed b_is same_y lists_ds)

  seg : y.seg ≡ length (i ∷ is)
  seg = last.segment g' own x n h f bs1 i is m y cs ds now1 flat b y2 listed b_is same_y lists_ds

  same_x : with_slot x n (slot.Used f) ≡ x
  same_x = slot_same x n f now.there.file

  for_last : IsHeaderFor k.geometry bs1 k.node n m own own x b (slot.Used f)
  for_last = last.last_for g' own x n h f bs1 i is m y cs ds now1 flat b y2 listed b_is same_y lists_ds k.node

  -- ---- the first header

  abbrev b1 : Block
  b1 = grown_first k.geometry s'.file (header_block k.geometry bs n) (length qs)

  abbrev h3 : Hdr
  h3 = grown_fields k n h f qs new x bs own on can (i ∷ is) m y cs ds now h.ext h.ext_seq

  abbrev rs : List Run
  rs = runs_in (header_block k.geometry bs n)

  h_is : IsHeaderOf (header_block k.geometry bs n) h (runs_in (header_block k.geometry bs n))
  h_is = record { whole = slot_whole g' bs own x n on.spelt now.there.number; reads = first_reads (header_block g' bs n) h now.there.reads; runs = refl }

  b1_is : IsHeaderOf b1 h3 rs
  b1_is = first_is k n h f qs new x bs own on can (i ∷ is) m y cs ds now h.ext h.ext_seq (header_block g' bs n) rs h_is

  module _ (spelt2 : Spells k.geometry bs2 own x) where
    abbrev bs3 : List Block
    bs3 = slice_set bs2 (header_place k.geometry n) b1

    abbrev hs3 : Headers
    hs3 = headers_at k.geometry bs3

    here3 : header_block k.geometry bs3 n ≡ b1
    here3 = index-set_here bs2 (header_place g' n) b1 (slot_on g' bs2 own x n spelt2 now.there.number)

    so3 : (hs3.says n ≡ Some h3) × (hs3.lists n ≡ rs)
    so3 = says_so g' bs3 n h3 rs (subst (λ (z : Block). IsHeaderOf z h3 rs) (sym here3) b1_is)

    first_same : header_block k.geometry bs2 n ≡ header_block k.geometry bs n
    first_same = first2 ∙ ready.same n (inl refl)

    lists_same : hs3.lists n ≡ hs2.lists n
    lists_same = so3.1 ∙ sym (says_so g' bs2 n h rs (subst (λ (z : Block). IsHeaderOf z h rs) (sym first_same) h_is)).1

    set3 : IsFirstSet hs2 hs3 n h h3
    set3 = record { files = refl; others = λ j ne. slot_stays g' bs2 n j b1 ne; lists = lists_same; ext = refl; ext_seq = refl; seg = refl }

    lead3 : Lead k.geometry hs3 n h3 (i ∷ is) m y2 cs
    lead3 = lead_first g' hs2 hs3 n h h3 i is m y2 cs set3 says2 lead2

    new_same : (p : ℕ × ℕ) → new ≡ Some p → IsSameSlot hs1 hs3 p.0
    new_same p e =
        let apart = new_apart k n h f qs new x bs own on (i ∷ is) m y cs ds now can.slot p e in
        then_stays hs1 hs2 hs3 p.0 (set2.others p.0 (λ q. apart m (inr behind) (sym q))) (set3.others p.0 (λ q. apart n (inl refl) (sym q)))

    grown3 : AreGrown k.geometry hs3 n h3 (i ∷ is) m y2 cs ds qs new
    grown3 =
        let so = linked_for k n h f qs new x bs own on can (i ∷ is) m y cs ds now bs1 ready hs3 y2 refl new_same seg in
        record {
          says = so3.0;
          blocks = all_blocks k n h f qs new x bs own on can (i ∷ is) m y cs ds now;
          lead = lead3;
          lists = (set3.others m other).lists ∙ so2.1;
          link = (refl, refl);
          more = so.0;
          rest = so.1;
        }

    pub then_first : (end : End) (ws : List PlanWrite) → Has k.locks (S n) → StageOf k stage.Done (with_file x n (grown x f (length qs)))
        → (IsPartWritten k n n b1 nothing (with_file x n (grown x f (length qs))) bs2 bs3 (grown_owners k n h f qs new x bs own on (i ∷ is) m y cs ds now can.slot)
        → StepsOf end k ws bs3 (grown_owners k n h f qs new x bs own on (i ∷ is) m y cs ds now can.slot))
        → StepsOf end k (header_write k.geometry n b1 stage.Done (holding [] None) ∷ ws) bs2 own
    then_first end ws lock done rest =
        last_steps k n h f qs new x bs own on can (i ∷ is) m y cs ds now bs2 spelt2 first_same clusters2 h.ext h.ext_seq b1 rs b1_is
        (has_all k n h f qs new x bs own on can (i ∷ is) m y cs ds now hs3 h3 y2 grown3) end ws lock done rest

  pub two_steps : (end : End) (ws : List PlanWrite) → Has k.locks (S n) → StageOf k stage.Charged x → StageOf k stage.Done (with_file x n (grown x f (length qs)))
      → (IsPartWritten k n m b (things qs (number_of new)) (with_slot x n (slot.Used f)) bs1 bs2 own
      → IsPartWritten k n n b1 nothing (with_file x n (grown x f (length qs))) bs2 (slice_set bs2 (header_place k.geometry n) b1) (grown_owners k n h f qs new x bs own on (i ∷ is) m y cs ds now can.slot)
      → StepsOf end k ws (slice_set bs2 (header_place k.geometry n) b1) (grown_owners k n h f qs new x bs own on (i ∷ is) m y cs ds now can.slot))
      → StepsOf end k (header_write k.geometry m b stage.Charged (holding qs (number_of new)) ∷ header_write k.geometry n b1 stage.Done (holding [] None) ∷ ws) bs1 own
  two_steps end ws lock charged done rest =
      part_steps end k n m (slot.Used f) (header_write g' m b stage.Charged (holding qs (number_of new))) (header_write g' n b1 stage.Done (holding [] None) ∷ ws) x bs1 own own now1.spelt lock refl for_last on.outs
      (subst (StageOf k stage.Charged) (sym same_x) charged)
      (λ w. then_first (subst (λ z. Spells g' bs2 own z) same_x w.spelt) end ws lock done (rest w))

-- where the first one is the last one too
module _ (k : Chain) (n : ℕ) (h : Hdr) (f : File) (qs : List ℕ) (new : Option (ℕ × ℕ)) (x : Cat) (bs : List Block) (own : Owners) (on : StandsOn k (holding qs (number_of new)) x bs own) (can : CanGrow k.geometry bs f qs new)
    (m : ℕ) (y : Hdr) (cs ds : List ℕ) (now : IsNow k.geometry own x n h f bs [] m y cs ds) (bs1 : List Block) (ready : IsReady k n h f qs new x bs own on [] m y cs ds now can.slot bs1) where
  abbrev sole : SeenFile
  sole = seen k n h f qs new x bs own on [] m y cs ds now can.slot

  abbrev sole_listed : List Run
  sole_listed = merged (runs_for k.geometry (ds ++ take (77 - length ds) qs))

  sole_last : IsHeaderOf (grown_last k.geometry sole (header_block k.geometry bs n) qs new) (record h { ext = (link_to new).0; ext_seq = (link_to new).1 }) sole_listed
  sole_last =
      let lead = now.are.lead in
      let is_last = last_is k n h f qs new x bs own on [] m y cs ds now can.slot in
      subst (λ (z : Hdr). IsHeaderOf (grown_last k.geometry sole (header_block k.geometry bs n) qs new) (record z { ext = (link_to new).0; ext_seq = (link_to new).1 }) sole_listed) (sym lead.1)
      (subst (λ j. IsHeaderOf (grown_last k.geometry sole (header_block k.geometry bs j) qs new) (record y { ext = (link_to new).0; ext_seq = (link_to new).1 }) sole_listed) (sym lead.0) is_last)

  abbrev sole_fields : Hdr
  sole_fields = grown_fields k n h f qs new x bs own on can [] m y cs ds now (link_to new).0 (link_to new).1

  abbrev sole_block : Block
  sole_block = grown_first k.geometry sole.file (grown_last k.geometry sole (header_block k.geometry bs n) qs new) (length qs)

  sole_is : IsHeaderOf sole_block sole_fields sole_listed
  sole_is = first_is k n h f qs new x bs own on can [] m y cs ds now (link_to new).0 (link_to new).1 (grown_last k.geometry sole (header_block k.geometry bs n) qs new) sole_listed sole_last

  abbrev sole_after : List Block
  sole_after = slice_set bs1 (header_place k.geometry n) sole_block

  sole_so : ((headers_at k.geometry sole_after).says n ≡ Some sole_fields) × ((headers_at k.geometry sole_after).lists n ≡ sole_listed)
  sole_so =
      let here : header_block k.geometry sole_after n ≡ sole_block = index-set_here bs1 (header_place k.geometry n) sole_block (slot_on k.geometry bs1 own x n ready.now1.spelt now.there.number) in
      says_so k.geometry sole_after n sole_fields sole_listed (subst (λ (z : Block). IsHeaderOf z sole_fields sole_listed) (sym here) sole_is)

  sole_grown : AreGrown k.geometry (headers_at k.geometry sole_after) n sole_fields [] m sole_fields cs ds qs new
  sole_grown =
      let lead = now.are.lead in
      let zero : h.seg ≡ 0 = first_segment (header_block k.geometry bs n) h now.there.reads in
      let same : (p : ℕ × ℕ) → new ≡ Some p → IsSameSlot (headers_at k.geometry bs1) (headers_at k.geometry sole_after) p.0 =
      λ p e. slot_stays k.geometry bs1 n p.0 sole_block (λ q. new_apart k n h f qs new x bs own on [] m y cs ds now can.slot p e n (inl refl) (sym q)) in
      let so = linked_for k n h f qs new x bs own on can [] m y cs ds now bs1 ready (headers_at k.geometry sole_after) sole_fields refl same zero in
      record {
        says = sole_so.0;
        blocks = all_blocks k n h f qs new x bs own on can [] m y cs ds now;
        lead = (lead.0, refl, lead.2);
        lists = ap (headers_at k.geometry sole_after).lists (sym lead.0) ∙ sole_so.1;
        link = (refl, refl);
        more = so.0;
        rest = so.1;
      }

  pub one_step : (end : End) (ws : List PlanWrite) → Has k.locks (S n) → StageOf k stage.Done (with_file x n (grown x f (length qs)))
      → (IsPartWritten k n n sole_block nothing (with_file x n (grown x f (length qs))) bs1 sole_after (grown_owners k n h f qs new x bs own on [] m y cs ds now can.slot)
      → StepsOf end k ws sole_after (grown_owners k n h f qs new x bs own on [] m y cs ds now can.slot))
      → StepsOf end k (header_write k.geometry n sole_block stage.Done (holding [] None) ∷ ws) bs1 own
  one_step end ws lock done rest =
      last_steps k n h f qs new x bs own on can [] m y cs ds now bs1 ready.now1.spelt (ready.same n (inl refl)) ready.now1.clusters (link_to new).0 (link_to new).1 sole_block sole_listed sole_is
      (has_all k n h f qs new x bs own on can [] m y cs ds now (headers_at k.geometry sole_after) sole_fields sole_fields sole_grown) end ws lock done rest
