-- The writes of a virtual block are steps: zeros from the mark on, the block, and the header behind it.
use Rattle.std.proofs.Common.{◌≡◌, ◌≤◌, ◌+◌, ◌-◌, ◌*◌, ◌++◌, ◌∙◌, ℕ, Bool, true, false, cond, List, [], ◌∷◌, length, map, take, slice_set, refl, sym, ap, subst, arith}
use Rattle.std.specs.Prelude.{◌==◌, ◌&&◌, not, nat_le, replicate}
use Rattle.std.specs.List.{range_with_len}
use Rattle.std.proofs.lemmas.Bool.Decides.{nat_tests}
use Rattle.base_words.specs.Fields.{Block, IsWholeBlock}
use Rattle.base_words.specs.Tables.{zeros}
use Rattle.fx_header.specs.declared.slot.Hdr.{Hdr}
use Rattle.fx_header.specs.Pointers.{lbns_in}
use Rattle.lock_db.specs.declared.name.LockName.TheVariants.{S}
use Rattle.plain_cat.specs.declared.history.Stage.TheVariants as stage
use Rattle.plain_cat.specs.declared.cat.Cat.{Cat}
use Rattle.plain_cat.specs.declared.cat.File.{File}
use Rattle.plain_cat.specs.declared.cat.Slot.TheVariants as slot
use Rattle.plain_rules.specs.Changes.{with_file, is_past_mark, with_block}
use Rattle.base_words.specs.Lists.{Has, written}
use Rattle.vol_spell.specs.Owners.{Owners}
use Rattle.vol_spell.proofs.Placing.{length-blocks_at}
use Rattle.vol_parts.specs.declared.geometry.Geometry.{Geometry}
use Rattle.vol_parts.specs.Catalogues.{written_blocks, file_of}
use Rattle.vol_spell.specs.Reading.{told_of}
use Rattle.vol_spell.specs.Spelling.{Spells}
use Rattle.vol_under.specs.Chains.{End}
use Rattle.op_law.specs.declared.need.PlanWrite.{PlanWrite}
use Rattle.op_law.specs.Channels.{zero_writes, sizes_write, block_writes}
use Rattle.op_law.specs.Refusing.{SeenFile}
use Rattle.op_law.specs.SeenFiles.{file_write}
use Rattle.op_law.specs.Writing.{empty_handed}
use Rattle.op_steps.specs.Chained.{Chain, StepsOf, StageOf, after_writes, StandsOn}
use Rattle.op_steps.specs.Files.{file_in}
use Rattle.vol_spell.specs.Files.{blocks_told as blocks_in, IsFileThere, IsResized, showing}
use Rattle.vol_spell.proofs.HeadFiles.{mark_within, end_within, byte_within}
use Rattle.op_steps.specs.BlockWrites.{HasBlock, IsBlockWritten, file_with, WriteSteps}
use Rattle.op_steps.proofs.Lists.{filled, take_behind}
use Rattle.vol_spell.proofs.Slots.{slot_twice, file_there}
use Rattle.vol_spell.proofs.Shown.{shown_by}
use Rattle.vol_spell.proofs.FilePlaces.{plain, file, size, count, no_dir, shows}
use Rattle.op_steps.proofs.BlockSteps.{block_steps}
use Rattle.op_steps.proofs.Zeros.{same_past, still_there, zero_steps}
use Rattle.op_steps.proofs.Sizes.{sized_as, written_as, header_as, end_in, byte_in, header_step}

module _ (end : End) (k : Chain) (n : ℕ) (h : Hdr) (f : File) (vbn : ℕ) (b : Block) (x : Cat) (bs : List Block) (own : Owners) (on : StandsOn k empty_handed x bs own) (has : HasBlock k.geometry x bs n h f vbn) (whole : IsWholeBlock b) (lock : Has k.locks (S n))
    (done : StageOf k stage.Done (with_file x n (file_with f vbn b))) (rest : (after : List Block) → StandsOn k empty_handed (with_file x n (file_with f vbn b)) after own → end after own) where
  abbrev g : Geometry
  g = k.geometry

  abbrev limit : ℕ
  limit = k.geometry.cluster * f.clusters

  -- the writes by the file as it is seen
  abbrev last_by : SeenFile → List PlanWrite
  last_by s = sizes_write k.geometry s vbn ∷ []

  abbrev tail_by : SeenFile → List PlanWrite
  tail_by s = file_write s vbn b stage.Nothing ∷ sizes_write k.geometry s vbn ∷ []

  file_so : f ≡ file_of k.geometry.cluster n h (blocks_in k.geometry bs n)
  file_so = file g bs own x n h f on.spelt has.there

  mark_so : f.mark ≡ h.mark
  mark_so = ap (λ (y : File). y.mark) file_so

  end_so : f.end ≡ h.end
  end_so = ap (λ (y : File). y.end) file_so

  byte_so : f.byte ≡ h.byte
  byte_so = ap (λ (y : File). y.byte) file_so

  mark_low : f.mark ≤ k.geometry.cluster * f.clusters + 1
  mark_low =
      let e = size g bs own x n h f on.spelt has.there in
      let m = mark_so in
      let le = mark_within g bs own x n h on.spelt has.there.number has.there.reads in
      omega arith

  end_low : f.end ≤ k.geometry.cluster * f.clusters + 1
  end_low =
      let e = size g bs own x n h f on.spelt has.there in
      let m = end_so in
      let le = end_within g bs own x n h on.spelt has.there.number has.there.reads in
      omega arith

  byte_low : f.byte ≤ 511
  byte_low =
      let m = byte_so in
      let le = byte_within g bs own x n h on.spelt has.there.number has.there.reads in
      omega arith

  -- what its blocks show by another mark
  shown_so : (mark : ℕ) (ys : List Block) → written_blocks n (record h { mark = mark }) ys ≡ shown_by mark ys
  shown_so mark ys =
      ap (λ (d : Bool). written_blocks n (record h { mark = mark; dir = d }) ys) (no_dir g bs own x n h f on.spelt has.there has.flat)
      ∙ ap (λ (t : Bool). cond t [] (shown_by mark ys)) (plain g bs own x n h f on.spelt has.there)

  -- ---- at or above the mark

  module _ (past : is_past_mark f vbn ≡ true) (moves : Bool) (ends : nat_le f.end vbn ≡ moves) (first : StageOf k stage.Nothing x) where
    abbrev new : File
    new = sized_as f (vbn + 1) moves vbn (with_block f vbn b)

    new_so : file_with f vbn b ≡ new
    new_so = written_as f vbn b true moves past ends

    marked : 1 ≤ f.mark
    marked = grind (arith, nat_tests)

    marked_to : f.mark ≤ vbn
    marked_to = grind (arith, nat_tests)

    long : length (blocks_in k.geometry bs n) ≡ k.geometry.cluster * f.clusters
    long = length-blocks_at bs (lbns_in (told_of k.geometry bs n).runs) ∙ count g bs own x n h f on.spelt has.there

    -- what showed
    old_shown : f.written ≡ take (f.mark - 1) (blocks_in k.geometry bs n)
    old_shown =
        let some : (f.mark == 0) ≡ false = (let low = marked in grind (arith, nat_tests)) in
        ap (λ (y : File). y.written) file_so ∙ shown_so h.mark (blocks_in k.geometry bs n) ∙ ap (λ z. shown_by z (blocks_in k.geometry bs n)) (sym mark_so)
        ∙ ap (λ (t : Bool). cond t (blocks_in k.geometry bs n) (take (f.mark - 1) (blocks_in k.geometry bs n))) some

    -- with the zeros and the block, and the mark behind it
    all_shown : (ys : List Block) → ys ≡ slice_set (written (filled (f.mark - 1) (vbn - f.mark) zeros) (blocks_in k.geometry bs n)) (vbn - 1) b
        → written_blocks n (record h { mark = vbn + 1 }) ys ≡ with_block f vbn b
    all_shown ys e =
        let le = has.to in
        let len = long in
        let body : List Block = blocks_in g bs n in
        let some : (vbn + 1 == 0) ≡ false = grind (arith, nat_tests) in
        let top : vbn + 1 - 1 ≡ vbn = omega arith in
        let within : vbn ≤ length (blocks_in k.geometry bs n) = omega arith in
        shown_so (vbn + 1) ys
        ∙ ap (λ (t : Bool). cond t ys (take (vbn + 1 - 1) ys)) some
        ∙ ap (λ z. take z ys) top
        ∙ ap (take vbn) e
        ∙ take_behind zeros b f.mark vbn body marked marked_to within
        ∙ ap (λ (w : List Block). w ++ (replicate (vbn - f.mark) zeros ++ b ∷ [])) (sym old_shown)
        ∙ sym (ap (λ (t : Bool). cond t (f.written ++ (replicate (vbn - f.mark) zeros ++ b ∷ [])) (slice_set f.written (vbn - 1) b)) past)

    -- the header behind the block
    past_header : (last : List Block) → StandsOn k empty_handed x last own → IsFileThere k.geometry x last n h f
        → blocks_in k.geometry last n ≡ slice_set (written (filled (f.mark - 1) (vbn - f.mark) zeros) (blocks_in k.geometry bs n)) (vbn - 1) b
        → StepsOf end k (sizes_write k.geometry (file_in k.geometry last n h) vbn ∷ []) last own
    past_header last on' there' body =
        let le = has.to in
        let top : vbn + 1 ≤ k.geometry.cluster * f.clusters + 1 = omega arith in
        let sizes : IsResized g last n h f new = record {
          same = refl;
          mark = top;
          end = end_in moves vbn f.end limit has.to end_low;
          byte = byte_in moves f.byte byte_low;
          written = all_shown (blocks_in g last n) body;
        } in
        header_step end k n h f new vbn x last own on' there' has.flat sizes lock (subst (λ (y : File). StageOf k stage.Done (with_file x n y)) new_so done)
        (header_as k n h last f vbn true moves (with_block f vbn b) mark_so end_so byte_so past ends)
        (λ after on''. rest after (subst (λ (y : File). StandsOn k empty_handed (with_file x n y) after own) (sym new_so) on''))

    -- the block behind the zeros
    past_tail : (last : List Block) → StandsOn k empty_handed x last own → IsFileThere k.geometry x last n h f
        → blocks_in k.geometry last n ≡ written (filled (f.mark - 1) (vbn - f.mark) zeros) (blocks_in k.geometry bs n)
        → StepsOf end k (tail_by (file_in k.geometry last n h)) last own
    past_tail last on' there' body =
        let same : with_file x n (showing f vbn b) ≡ x = same_past x n f vbn b there'.file past in
        block_steps end k n h f vbn b stage.Nothing (last_by (file_in g last n h)) x last own on'
        (record { there = there'; flat = has.flat; from = has.from; to = has.to }) whole (subst (StageOf k stage.Nothing) (sym same) first) (behind same (after_writes (file_write (file_in g last n h) vbn b stage.Nothing ∷ []) last)) where
          behind : with_file x n (showing f vbn b) ≡ x → (after : List Block) → IsBlockWritten k n vbn b (with_file x n (showing f vbn b)) own last after → StepsOf end k (last_by (file_in k.geometry last n h)) after own
          behind same after w =
              subst (λ (s : SeenFile). StepsOf end k (last_by s) after own) (w.seen h)
              (past_header after (record { spelt = subst (λ (y : Cat). Spells g after own y) same w.on.spelt; outs = w.on.outs }) (still_there k n h f x last after w.header there')
              (w.blocks ∙ ap (λ (ys : List Block). slice_set ys (vbn - 1) b) body))

    past_steps : StepsOf end k (zero_writes (file_in k.geometry bs n h) vbn ++ tail_by (file_in k.geometry bs n h)) bs own
    past_steps =
        let low = marked in
        let to = marked_to in
        let le = has.to in
        let start : f.mark - 1 + 1 ≡ h.mark = (let e = mark_so in omega arith) in
        subst (λ i. StepsOf end k (map (λ v. file_write (file_in g bs n h) v zeros stage.Nothing) (range_with_len i (vbn - h.mark)) ++ tail_by (file_in k.geometry bs n h)) bs own) start
        (subst (λ z. StepsOf end k (map (λ v. file_write (file_in g bs n h) v zeros stage.Nothing) (range_with_len (f.mark - 1 + 1) (vbn - z)) ++ tail_by (file_in k.geometry bs n h)) bs own) mark_so
        (zero_steps end k n h f x own first has.flat marked (tail_by (file_in k.geometry bs n h)) (vbn - f.mark) (f.mark - 1) bs on has.there (omega arith) (omega arith)
        (λ last on' same body. subst (λ (s : SeenFile). StepsOf end k (tail_by s) last own) same (past_tail last on' (still_there k n h f x bs last (ap (λ (s : SeenFile). s.head) same) has.there) body))))

  -- ---- below the mark, or where there is none

  module _ (past : is_past_mark f vbn ≡ false) where
    abbrev set : File
    set = record f { written = with_block f vbn b }

    -- the block shows alone
    set_so : showing f vbn b ≡ set
    set_so =
        ap (λ (t : Bool). cond t f (record f { written = slice_set f.written (vbn - 1) b })) past
        ∙ sym (ap (λ (t : Bool). record f { written = cond t (f.written ++ (replicate (vbn - f.mark) zeros ++ b ∷ [])) (slice_set f.written (vbn - 1) b) }) past)

    -- and the header behind it
    behind_data : nat_le f.end vbn ≡ true → (after : List Block) → IsBlockWritten k n vbn b (with_file x n (record f { written = with_block f vbn b })) own bs after → StepsOf end k (last_by (file_in k.geometry bs n h)) after own
    behind_data ends after w =
        let to = has.to in
        let there' : IsFileThere g (with_file x n set) after n h set = record {
          number = has.there.number;
          above = has.there.above;
          reads = (still_there k n h f x bs after w.header has.there).reads;
          file = file_there x n f set has.there.number.from has.there.file;
        } in
        let new : File = sized_as f f.mark true vbn (with_block f vbn b) in
        let new_so : file_with f vbn b ≡ new = written_as f vbn b false true past ends in
        let twice : with_file (with_file x n set) n new ≡ with_file x n new = slot_twice x n (slot.Used set) (slot.Used new) in
        let all : with_file (with_file x n set) n new ≡ with_file x n (file_with f vbn b) = twice ∙ ap (with_file x n) (sym new_so) in
        let sizes : IsResized g after n h set new = record {
          same = refl;
          mark = mark_low;
          end = end_in true vbn f.end limit has.to end_low;
          byte = byte_in true f.byte byte_low;
          written = ap (written_blocks n (record h { mark = f.mark })) w.blocks
              ∙ ap (λ z. written_blocks n (record h { mark = z }) (slice_set (blocks_in g bs n) (vbn - 1) b)) mark_so
              ∙ ap (λ (y : File). y.written) (shows g bs own x n h f on.spelt has.there vbn has.from has.to has.flat b ∙ set_so);
        } in
        subst (λ (s : SeenFile). StepsOf end k (last_by s) after own) (w.seen h)
        (header_step end k n h set new vbn (with_file x n set) after own w.on there' has.flat sizes lock (subst (StageOf k stage.Done) (sym all) done)
        (header_as k n h after f vbn false true (with_block f vbn b) mark_so end_so byte_so past ends)
        (λ last on'. rest last (subst (λ (y : Cat). StandsOn k empty_handed y last own) all on')))

    data_steps : nat_le f.end vbn ≡ true → StageOf k stage.DataOnly (with_file x n (record f { written = with_block f vbn b }))
        → StepsOf end k (file_write (file_in k.geometry bs n h) vbn b stage.DataOnly ∷ last_by (file_in k.geometry bs n h)) bs own
    data_steps ends early =
        block_steps end k n h f vbn b stage.DataOnly (last_by (file_in k.geometry bs n h)) x bs own on has whole (subst (λ (y : File). StageOf k stage.DataOnly (with_file x n y)) (sym set_so) early)
        (λ w. let after : List Block = after_writes (file_write (file_in g bs n h) vbn b stage.DataOnly ∷ []) bs in behind_data ends after (subst (λ (y : File). IsBlockWritten k n vbn b (with_file x n y) own bs after) set_so w))

    alone_steps : nat_le f.end vbn ≡ false → StepsOf end k (file_write (file_in k.geometry bs n h) vbn b stage.Done ∷ []) bs own
    alone_steps stays =
        let all : showing f vbn b ≡ file_with f vbn b = set_so ∙ sym (written_as f vbn b false false past stays) in
        block_steps end k n h f vbn b stage.Done [] x bs own on has whole (subst (λ (y : File). StageOf k stage.Done (with_file x n y)) (sym all) done)
        (λ w. let after : List Block = after_writes (file_write (file_in g bs n h) vbn b stage.Done ∷ []) bs in rest after (subst (λ (y : File). StandsOn k empty_handed (with_file x n y) after own) all w.on))

pub write_steps : (end : End) → WriteSteps end
unfolding block_writes
write_steps end k n h f vbn b x bs own on has whole lock first early done rest = by_past (is_past_mark (file_in k.geometry bs n h).file vbn) refl where
  same : f ≡ file_of k.geometry.cluster n h (blocks_in k.geometry bs n)
  same = file k.geometry bs own x n h f on.spelt has.there

  by_end : is_past_mark f vbn ≡ false → (t : Bool) → nat_le h.end vbn ≡ t → StepsOf end k (cond t (file_write (file_in k.geometry bs n h) vbn b stage.DataOnly ∷ sizes_write k.geometry (file_in k.geometry bs n h) vbn ∷ []) (file_write (file_in k.geometry bs n h) vbn b stage.Done ∷ [])) bs own
  by_end past true e =
      let ends : nat_le f.end vbn ≡ true = ap (λ (y : File). nat_le y.end vbn) same ∙ e in
      data_steps end k n h f vbn b x bs own on has whole lock done rest past ends (early (ap (λ (t : Bool). not t && nat_le f.end vbn) past ∙ ends))
  by_end past false e = alone_steps end k n h f vbn b x bs own on has whole lock done rest past (ap (λ (y : File). nat_le y.end vbn) same ∙ e)

  by_past : (t : Bool) → is_past_mark (file_in k.geometry bs n h).file vbn ≡ t → StepsOf end k (cond t (zero_writes (file_in k.geometry bs n h) vbn ++ file_write (file_in k.geometry bs n h) vbn b stage.Nothing ∷ sizes_write k.geometry (file_in k.geometry bs n h) vbn ∷ [])
      (cond (nat_le h.end vbn) (file_write (file_in k.geometry bs n h) vbn b stage.DataOnly ∷ sizes_write k.geometry (file_in k.geometry bs n h) vbn ∷ []) (file_write (file_in k.geometry bs n h) vbn b stage.Done ∷ []))) bs own
  by_past true e = past_steps end k n h f vbn b x bs own on has whole lock done rest (ap (λ (y : File). is_past_mark y vbn) same ∙ e) (nat_le f.end vbn) refl first
  by_past false e = by_end (ap (λ (y : File). is_past_mark y vbn) same ∙ e) (nat_le h.end vbn) refl
