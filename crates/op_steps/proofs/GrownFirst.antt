-- The first header of a file that gets clusters, with which the file is grown, is a step.
use Rattle.std.proofs.Common.{◌≡◌, ◌∙◌, ◌≤◌, ◌<◌, ◌+◌, ◌-◌, ◌*◌, ◌/◌, ◌^◌, ◌++◌, ℕ, true, false, List, [], ◌∷◌, Option, Some, None, drop, length, slice_get, slice_set, refl, sym, ap, subst, inl, arith, length-append}
use Rattle.std.specs.Prelude.{Ok, IfSome, is_some}
use Rattle.std.proofs.Math.Nat.{mul-le-mul_right}
use Rattle.base_words.specs.Fields.{Block}
use Rattle.base_words.specs.Lists.{Has}
use Rattle.fx_header.specs.declared.run.Run.{Run}
use Rattle.fx_header.specs.declared.slot.Hdr.{Hdr}
use Rattle.fx_header.specs.declared.slot.Slot.TheVariants as head
use Rattle.fx_header.specs.Pointers.{merged}
use Rattle.plain_cat.specs.declared.cat.Cat.{Cat}
use Rattle.plain_cat.specs.declared.cat.File.{File}
use Rattle.plain_cat.specs.declared.cat.Slot.TheVariants as slot
use Rattle.plain_cat.specs.declared.history.Stage.TheVariants as stage
use Rattle.plain_rules.specs.Changes.{with_file, grown}
use Rattle.plain_rules.specs.Lookups.{file_most}
use Rattle.vol_parts.specs.declared.geometry.Geometry.{Geometry}
use Rattle.vol_parts.specs.Chains.{Headers}
use Rattle.vol_parts.specs.ChainLaws.{IsSameSlot}
use Rattle.vol_parts.specs.Catalogues.{file_of}
use Rattle.lock_db.specs.declared.name.LockName.TheVariants.{S}
use Rattle.vol_spell.specs.declared.owner.Owner.TheVariants.{InFile}
use Rattle.vol_spell.specs.Owners.{Owners, nothing}
use Rattle.vol_spell.specs.Reading.{IsFileNumber, header_place, header_block, headers_at, head_told, told_of, clusters_told}
use Rattle.vol_spell.specs.Spelling.{IsHead, Spells}
use Rattle.vol_spell.specs.Spread.{blocks_at, spread}
use Rattle.vol_spell.proofs.Heads.{first_segment, reads_first}
use Rattle.vol_spell.proofs.HeadFiles.{not_structure}
use Rattle.vol_spell.proofs.Placing.{index-set_here, spread_joined, blocks_joined}
use Rattle.vol_under.specs.Chains.{End}
use Rattle.op_law.specs.declared.need.PlanWrite.{PlanWrite}
use Rattle.op_law.specs.Headers.{grown_first, grown_mark}
use Rattle.op_law.specs.Refusing.{SeenFile}
use Rattle.op_law.specs.Writing.{holding, header_write, runs_for}
use Rattle.op_steps.specs.Chained.{Chain, StepsOf, StageOf, StandsOn}
use Rattle.op_steps.specs.GrownWrites.{number_of, IsNewSlot, CanGrow, with_new}
use Rattle.op_steps.proofs.ChainFiles.{slot_on, chain_sized, chain_shown, chain_file, chain_number, chain_ends}
use Rattle.op_steps.proofs.Grown.{mark_for, mark_low, grown_told}
use Rattle.op_steps.proofs.GrownChain.{IsLinked, AreGrown, needs_none, needs_some, grown_in_last, grown_in_new}
use Rattle.op_steps.proofs.GrownFacts.{seen, shared, counted, parts_count, within_parts, end, fields_for_new, new_segment, IsReady}
use Rattle.op_steps.proofs.FileNow.{IsNow, now_owned}
use Rattle.op_steps.proofs.GrownOwners.{grown_owners, takes, all_once, all_mine, all_numbers}
use Rattle.op_steps.proofs.HeaderBlocks.{IsHeaderOf, says_so, grown_first_is}
use Rattle.op_steps.proofs.HeadersFor.{IsChainFor, chain_for}
use Rattle.op_steps.proofs.HeadSteps.{IsPartWritten, part_steps}
use Rattle.op_steps.proofs.Leading.{HasHeaders}

module _ (k : Chain) (n : ℕ) (h : Hdr) (f : File) (qs : List ℕ) (new : Option (ℕ × ℕ)) (x : Cat) (bs : List Block) (own : Owners) (on : StandsOn k (holding qs (number_of new)) x bs own) (can : CanGrow k.geometry bs f qs new)
    (is : List ℕ) (m : ℕ) (y : Hdr) (cs ds : List ℕ) (now : IsNow k.geometry own x n h f bs is m y cs ds) where
  abbrev g : Geometry
  g = k.geometry

  -- the file as it is seen
  abbrev s : SeenFile
  s = seen k n h f qs new x bs own on is m y cs ds now can.slot

  abbrev c : ℕ
  c = h.blocks / k.geometry.cluster

  c_is : c ≡ length (cs ++ ds)
  c_is = counted k n h f qs new x bs own on is m y cs ds now can.slot

  file_is : f ≡ file_of k.geometry.cluster n h (blocks_at bs (spread k.geometry.cluster (clusters_told k.geometry (told_of k.geometry bs n))))
  file_is = chain_file g bs own x n h on.spelt now.there.number now.there.above now.there.reads f now.there.file

  f_is : f.clusters ≡ c
  f_is = ap (λ (z : File). z.clusters) file_is

  pub dir : h.dir ≡ false
  dir = ap (λ (z : File). z.dir) (sym file_is) ∙ can.flat

  -- it has no more clusters than a file may have
  few : length (cs ++ ds) + length qs ≤ file_most
  few = let a = can.file in let b = f_is in let d = c_is in omega arith

  top : k.geometry.cluster * (c + length qs) + 1 < 2 ^ 32
  top =
      let a = can.file in
      let b = f_is in
      let up : g.cluster * (c + length qs) ≤ 16 * (c + length qs) = mul-le-mul_right (c + length qs) on.spelt.counts.geometry.cluster_to in
      omega arith

  parts : f.clusters ≡ 77 * length is + length ds
  parts = f_is ∙ parts_count k n h f qs new x bs own on is m y cs ds now can.slot

  fit : new ≡ None → length ds + length qs ≤ 77
  fit e = needs_none (length is) (length ds) f.clusters (length qs) (shared k n h f qs new x bs own on is m y cs ds now can.slot) parts (ap is_some (sym e) ∙ can.needs)

  over : (p : ℕ × ℕ) → new ≡ Some p → 77 < length ds + length qs
  over p e = needs_some (length is) (length ds) f.clusters (length qs) (shared k n h f qs new x bs own on is m y cs ds now can.slot) parts (ap is_some (sym e) ∙ can.needs)

  pub short : is_some new ≡ true → length is + 1 ≤ 15
  short some = by_new new refl some where
    by_new : (o : Option (ℕ × ℕ)) → new ≡ o → is_some o ≡ true → length is + 1 ≤ 15
    by_new None e none = absurd (cc none)
    by_new (Some p) e one = let many = over p e in let a = can.file in let b = parts in omega arith

  -- ---- the first header, with which the file is grown

  abbrev pub grown_fields : ℕ → ℕ → Hdr
  grown_fields ext ext_seq = record h { blocks = k.geometry.cluster * (c + length qs); mark = grown_mark k.geometry s.file; ext = ext; ext_seq = ext_seq }

  size : h.blocks ≡ k.geometry.cluster * c
  size = chain_sized g bs own x n h on.spelt now.there.number now.there.above now.there.reads ∙ ap (λ qs. g.cluster * length qs) now.clusters ∙ ap (λ z. g.cluster * z) (sym c_is)

  more : k.geometry.cluster * (c + length qs) ≡ k.geometry.cluster * c + k.geometry.cluster * length qs
  more = omega arith

  pub all_blocks : k.geometry.cluster * (c + length qs) ≡ k.geometry.cluster * length ((cs ++ ds) ++ qs)
  all_blocks = let joined = length-append (cs ++ ds) qs in let e = c_is in ap (λ z. g.cluster * z) (let z : c + length qs ≡ length ((cs ++ ds) ++ qs) = omega arith in z)

  -- a block that had the fields h, maybe with another link
  pub first_is : (ext ext_seq : ℕ) (b : Block) (rs : List Run) → IsHeaderOf b (record h { ext = ext; ext_seq = ext_seq }) rs → IsHeaderOf (grown_first k.geometry s.file b (length qs)) (grown_fields ext ext_seq) rs
  first_is ext ext_seq b rs is_b =
      let ends = chain_ends g bs own x n h on.spelt now.there.number now.there.above now.there.reads in
      let a = size in
      let d = more in
      let low = mark_low (g.cluster * c) h.mark (let e = ends.1 in omega arith) in
      let high = ends.0 in
      let at = ends.1 in
      grown_first_is g s.file b (record h { ext = ext; ext_seq = ext_seq }) rs (length qs) is_b top (omega arith) (omega arith) (omega arith)

  -- all headers then
  pub has_all : (hs : Headers) (first z : Hdr) → AreGrown k.geometry hs n first is m z cs ds qs new → HasHeaders k.geometry hs n first (with_new (n ∷ is) new) ((cs ++ ds) ++ qs)
  has_all hs first z are = by_new new refl are where
    by_new : (o : Option (ℕ × ℕ)) → new ≡ o → AreGrown k.geometry hs n first is m z cs ds qs o → HasHeaders k.geometry hs n first (with_new (n ∷ is) o) ((cs ++ ds) ++ qs)
    by_new None e a =
        grown_in_last g on.spelt.counts.geometry hs n first is m z cs ds qs (shared k n h f qs new x bs own on is m y cs ds now can.slot) (within_parts k n h f qs new x bs own on is m y cs ds now can.slot) few (fit e) a
    by_new (Some p) e a =
        grown_in_new g on.spelt.counts.geometry hs n first is m z cs ds qs (shared k n h f qs new x bs own on is m y cs ds now can.slot) (within_parts k n h f qs new x bs own on is m y cs ds now can.slot) few p (over p e) can.most a

  -- what the new header says and lists, on blocks that keep its slot
  pub linked_for : (bs1 : List Block) (ready : IsReady k n h f qs new x bs own on is m y cs ds now can.slot bs1) (hs : Headers) (z : Hdr) → hs.files ≡ k.geometry.files → ((p : ℕ × ℕ) → new ≡ Some p → IsSameSlot (headers_at k.geometry bs1) hs p.0)
      → z.seg ≡ length is → IfSome new (IsLinked hs z) × IfSome new (λ p. hs.lists p.0 ≡ merged (runs_for k.geometry (drop (77 - length ds) qs)))
  linked_for bs1 ready hs z files same seg = by_new new refl can.slot ready.next where
    by_new : (o : Option (ℕ × ℕ)) → new ≡ o → IfSome o (IsNewSlot k.geometry bs)
        → IfSome o (λ p. IsHeaderOf (header_block k.geometry bs1 p.0) (fields_for_new k n h f qs new x bs own on is m y cs ds now can.slot p) (merged (runs_for k.geometry (drop (77 - length ds) qs))))
        → IfSome o (IsLinked hs z) × IfSome o (λ p. hs.lists p.0 ≡ merged (runs_for k.geometry (drop (77 - length ds) qs)))
    by_new None e none next = (tt, tt)
    by_new (Some p) e is_new next =
        let so = says_so g bs1 p.0 (fields_for_new k n h f qs new x bs own on is m y cs ds now can.slot p) (merged (runs_for g (drop (77 - length ds) qs))) next in
        let to = is_new.number.to in
        let up = new_segment k n h f qs new x bs own on is m y cs ds now can.slot p in (
          record {
            z = fields_for_new k n h f qs new x bs own on is m y cs ds now can.slot p;
            number = record { from = is_new.number.from; to = omega (arith, to, files) };
            says = (same p e).says ∙ so.0;
            num = refl;
            seq = refl;
            seg = up ∙ ap (λ i. i + 1) (sym seg);
          },
          (same p e).lists ∙ so.1,
        )

  -- On blocks that spell the same, with the file as it was but for the link of its last header: the write of the first header.
  module _ (bs1 : List Block) (spelt : Spells k.geometry bs1 own x) (first : header_block k.geometry bs1 n ≡ header_block k.geometry bs n) (clusters : clusters_told k.geometry (told_of k.geometry bs1 n) ≡ cs ++ ds)
      (ext ext_seq : ℕ) (b : Block) (rs : List Run) (is_b : IsHeaderOf b (grown_fields ext ext_seq) rs)
      (has : HasHeaders k.geometry (headers_at k.geometry (slice_set bs1 (header_place k.geometry n) b)) n (grown_fields ext ext_seq) (with_new (n ∷ is) new) ((cs ++ ds) ++ qs)) where
    reads1 : head_told (header_block k.geometry bs1 n) ≡ Ok (head.Used h)
    reads1 = ap head_told first ∙ now.there.reads

    number : IsFileNumber k.geometry n
    number = now.there.number

    abbrev old : List Block
    old = blocks_at bs1 (spread k.geometry.cluster (cs ++ ds))

    file_then : f ≡ file_of k.geometry.cluster n h old
    file_then = chain_file g bs1 own x n h spelt number now.there.above reads1 f now.there.file ∙ ap (λ qs. file_of g.cluster n h (blocks_at bs1 (spread g.cluster qs))) clusters

    old_long : length old ≡ k.geometry.cluster * length (cs ++ ds)
    old_long =
        ap (λ qs. length (blocks_at bs1 (spread g.cluster qs))) (sym clusters) ∙ chain_shown g bs1 own x n h spelt number now.there.above reads1 ∙ ap (λ qs. g.cluster * length qs) clusters

    told_grown : file_of k.geometry.cluster n (grown_fields ext ext_seq) (blocks_at bs1 (spread k.geometry.cluster ((cs ++ ds) ++ qs))) ≡ grown x f (length qs)
    told_grown =
        let j = length (cs ++ ds) in
        let behind = blocks_at bs1 (spread g.cluster qs) in
        let sized : h.blocks ≡ g.cluster * j = size ∙ ap (λ z. g.cluster * z) c_is in
        let ends = chain_ends g bs own x n h on.spelt number now.there.above now.there.reads in
        ap (λ ys. file_of g.cluster n (grown_fields ext ext_seq) ys) (ap (blocks_at bs1) (spread_joined g.cluster (cs ++ ds) qs) ∙ blocks_joined bs1 (spread g.cluster (cs ++ ds)) (spread g.cluster qs))
        ∙ ap (λ z. file_of g.cluster n (record h { blocks = g.cluster * (z + length qs); mark = mark_for (g.cluster * z) h.mark; ext = ext; ext_seq = ext_seq }) (old ++ behind)) c_is
        ∙ grown_told g x.factor n h j (length qs) old behind spelt.constants.factor spelt.counts.geometry.cluster_from (not_structure n now.there.above) dir sized old_long (let e = ends.1 in omega (arith, e, sized))
        ∙ ap (λ (z : File). grown x z (length qs)) (sym file_then)

    abbrev after : List Block
    after = slice_set bs1 (header_place k.geometry n) b

    here : header_block k.geometry after n ≡ b
    here = index-set_here bs1 (header_place g n) b (slot_on g bs1 own x n spelt number)

    num : h.num ≡ n
    num = chain_number g bs own x n h on.spelt number now.there.above now.there.reads

    for : IsChainFor k.geometry bs1 own (grown_owners k n h f qs new x bs own on is m y cs ds now can.slot) k.node n n b (grown_fields ext ext_seq) (with_new (n ∷ is) new) ((cs ++ ds) ++ qs) (grown x f (length qs))
    for = record {
      whole = is_b.whole;
      head = subst (IsHead n) (sym is_b.reads) num;
      reads = ap head_told here ∙ reads_first b (grown_fields ext ext_seq) is_b.reads (first_segment (header_block g bs n) h now.there.reads);
      num = num;
      has = has;
      alike = λ ne. absurd (ne refl);
      moves = (takes k n h f qs new x bs own on is m y cs ds now can.slot).moves;
      once = all_once k n h f qs new x bs own on is m y cs ds now can.slot;
      clusters = all_mine k n h f qs new x bs own on is m y cs ds now can.slot;
      numbers = all_numbers k n h f qs new x bs own on is m y cs ds now can.slot;
      few = let e = length-append (cs ++ ds) qs in let d = few in omega arith;
      flat = dir;
      file = told_grown;
    }

    owned : slice_get own.numbers (n - 1) ≡ Some (InFile n)
    owned = ((now_owned g own x n h f bs is m y cs ds now n).0 (inl refl)).1

    pub last_steps : (end : End) (ws : List PlanWrite) → Has k.locks (S n) → StageOf k stage.Done (with_file x n (grown x f (length qs)))
        → (IsPartWritten k n n b nothing (with_file x n (grown x f (length qs))) bs1 after (grown_owners k n h f qs new x bs own on is m y cs ds now can.slot)
        → StepsOf end k ws after (grown_owners k n h f qs new x bs own on is m y cs ds now can.slot))
        → StepsOf end k (header_write k.geometry n b stage.Done (holding [] None) ∷ ws) bs1 own
    last_steps end ws lock done rest =
        part_steps end k n n (slot.Used (grown x f (length qs))) (header_write g n b stage.Done (holding [] None)) ws x bs1 own (grown_owners k n h f qs new x bs own on is m y cs ds now can.slot) spelt lock refl
        (chain_for g bs1 own (grown_owners k n h f qs new x bs own on is m y cs ds now can.slot) x k.node n n b (grown_fields ext ext_seq) (with_new (n ∷ is) new) ((cs ++ ds) ++ qs) (grown x f (length qs)) spelt number now.there.above (inl refl) owned for)
        (takes k n h f qs new x bs own on is m y cs ds now can.slot).outs done rest
