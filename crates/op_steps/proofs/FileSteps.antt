-- The writes of a new file as steps, and what guards the blocks that they touch.
use Rattle.std.proofs.Common.{◌≡◌, ◌<◌, ◌≤◌, ◌+◌, ◌-◌, ◌*◌, ◌++◌, ◌⊎◌, ℕ, false, List, [], ◌∷◌, Some, length, map, slice_get, slice_set, is_some, refl, sym, ap, subst, ◌∙◌, inl, inr, arith, cond}
use Rattle.std.specs.Prelude.{Result, Ok, Err}
use Rattle.std.proofs.lemmas.Option.{slice_get_within}
use Rattle.base_words.specs.Fields.{Block}
use Rattle.fx_dir.specs.Directory.{directory}
use Rattle.fx_header.specs.declared.run.Run.{Run}
use Rattle.fx_header.specs.declared.slot.Slot.{Slot as Head}
use Rattle.fx_header.specs.declared.slot.Slot.TheVariants as head
use Rattle.fx_header.specs.declared.slot.HeaderFault.{HeaderFault}
use Rattle.fx_header.specs.Headers.{header_read, runs_in}
use Rattle.fx_header.specs.Pointers.{merged, blocks_in, lbns_in}
use Rattle.plain_cat.specs.declared.ids.Fid.{Fid}
use Rattle.plain_cat.specs.declared.cat.Cat.{Cat}
use Rattle.plain_cat.specs.declared.cat.Slot.TheVariants as slot
use Rattle.plain_cat.specs.declared.history.Stage.{Stage}
use Rattle.plain_cat.specs.declared.history.Stage.TheVariants as stage
use Rattle.plain_rules.specs.Lookups.{header_most}
use Rattle.plain_rules.specs.Changes.{with_file}
use Rattle.vol_spell.specs.declared.owner.Owner.TheVariants.{InFile, Outside}
use Rattle.base_words.specs.Lists.{Has, Once, written}
use Rattle.vol_spell.specs.Owners.{Owners, IsFileMove, Things}
use Rattle.vol_spell.specs.Spread.{blocks_at, spread}
use Rattle.base_words.proofs.Listing.{once_first}
use Rattle.vol_parts.specs.declared.geometry.Geometry.{Geometry}
use Rattle.vol_parts.specs.declared.geometry.Part.TheVariants.{Header}
use Rattle.vol_parts.specs.Volumes.{Told, fields_in, told_by}
use Rattle.vol_parts.specs.Chains.{cut}
use Rattle.vol_parts.specs.Catalogues.{is_structure}
use Rattle.vol_spell.specs.Reading.{IsFileNumber, total_of, header_place, header_block, headers_at, head_told, told_of, alone, clusters_of, clusters_told, body_places, body_blocks}
use Rattle.vol_spell.specs.Spelling.{AreWhole, IsHead, Tells, Spells}
use Rattle.vol_spell.specs.Kinds.{IsHeaderFor}
use Rattle.vol_spell.specs.Views.{IsSameFile}
use Rattle.vol_spell.proofs.Keeping.{outside_write}
use Rattle.vol_spell.proofs.Heads.{none_told, reads_first}
use Rattle.vol_spell.proofs.OneHeader.{within_file, alone_size, alone_split}
use Rattle.vol_spell.proofs.Parts.{numberless, in_use, told, part_owned}
use Rattle.vol_spell.proofs.Frames.{on_volume}
use Rattle.vol_spell.proofs.Viewing.{alone_set, header_set, outside_stays}
use Rattle.vol_spell.proofs.HeadSlots.{no_parts}
use Rattle.vol_under.specs.UnderWay.{PlannedWrite, bare}
use Rattle.vol_under.specs.Chains.{End, IsStep, Steps}
use Rattle.vol_under.specs.Filing.{filed, Takes}
use Rattle.vol_under.specs.Freeing.{IsOutsideWrite}
use Rattle.vol_under.proofs.Files.{file_takes}
use Rattle.vol_under.proofs.Frees.{outside_series}
use Rattle.vol_under.proofs.Reach.{step_kinds}
use Rattle.op_law.specs.declared.need.PlanWrite.{PlanWrite}
use Rattle.op_law.specs.Entering.{NewEntry, fields_for, new_header, body_writes}
use Rattle.op_law.specs.Fits.{things}
use Rattle.op_law.specs.Laws.{planned}
use Rattle.op_law.specs.Writing.{holding, empty_handed, runs_for, header_write}
use Rattle.op_steps.specs.Chained.{Chain, StepsOf, StandsOn, FilesStay, OthersStay, after_writes}
use Rattle.op_steps.specs.FileWrites.{CanBeMade, file_writes, FileSteps}
use Rattle.op_steps.proofs.FileRuns.{whole_for, clusters_for_runs, lbns_merged}
use Rattle.op_steps.proofs.FileHeads.{IsBare, head_is, listed_is, cut_is, whole_new, new_dir_told, new_slot_told}
use Rattle.op_steps.proofs.FileBodies.{AreBody, are_body}
use Rattle.vol_parts.proofs.Structures.{not_structure}

-- ---- writes in a row

after_last : (vs : List PlanWrite) (w : PlanWrite) (bs : List Block) → after_writes (vs ++ w ∷ []) bs ≡ slice_set (after_writes vs bs) w.lbn w.block
after_last [] w bs = refl
after_last (v ∷ vs) w bs = after_last vs w (slice_set bs v.lbn v.block)

in_a_row : (vs ws : List PlanWrite) (w : PlanWrite) → map planned ((vs ++ w ∷ []) ++ ws) ≡ map planned vs ++ planned w ∷ map planned ws
in_a_row [] ws w = refl
in_a_row (v ∷ vs) ws w = ap (λ us. planned v ∷ us) (in_a_row vs ws w)

-- what is the same after one write and after those behind it
pub same_on : (g : Geometry) (a b c : List Block) (i : ℕ) → IsSameFile g a b i → IsSameFile g b c i → IsSameFile g a c i
same_on g a b c i p q = record { header = q.header ∙ p.header; told = q.told ∙ p.told; body = q.body ∙ p.body }

-- writes to blocks that a node has outside leave each file
files_stay : (g : Geometry) (node : ℕ) (s : Stage) (o : Things) (vs : List PlannedWrite) (bs : List Block) (own : Owners) (x : Cat) → Spells g bs own x → ((w : PlannedWrite) → Has vs w → IsOutsideWrite g node own s o w) → FilesStay g bs (written (bare vs) bs)
files_stay g node s o [] bs own x spelt each i is = record { header = refl; told = refl; body = refl }
files_stay g node s o (v ∷ vs) bs own x spelt each i is =
    let h = each v (inl refl) in
    let next = outside_write g bs own x node v.lbn v.block spelt h.whole h.owner in
    same_on g bs (slice_set bs v.lbn v.block) (written (bare vs) (slice_set bs v.lbn v.block)) i
    (outside_stays g bs own x i node v.lbn v.block spelt is h.owner)
    (files_stay g node s o vs (slice_set bs v.lbn v.block) own x next (λ w t. each w (inr t)) i is)

-- ---- the header

-- no file has a number that is outside
unused : (g : Geometry) (bs : List Block) (own : Owners) (x : Cat) (node n : ℕ) → Spells g bs own x → IsFileNumber g n → slice_get own.numbers (n - 1) ≡ Some (Outside node) → (q : ℕ) → slice_get own.clusters q ≡ Some (InFile n) → ⊥
unused g bs own x node n spelt is out q at =
    let t = told g bs own x spelt n is in
    by_head (head_told (header_block g bs n)) refl ((t.runs q).1 at) where
      by_head : (r : Result Head HeaderFault) → head_told (header_block g bs n) ≡ r → Has (clusters_told g (told_of g bs n)) q → ⊥
      by_head (Ok (head.Used h)) e t =
          let f : Some (Outside node) ≡ Some (InFile n) = sym out ∙ (in_use g bs own x spelt n is).0 (ap (λ r. is_some (fields_in r)) e) in absurd (cc)
      by_head (Ok (head.Free seq)) e t = subst (λ (z : Told). Has (clusters_told g z) q) (none_told g bs n seq e) t
      by_head (Err fault) e t = subst (λ (z : Told). Has (clusters_told g z) q) (ap (told_by (headers_at g bs) n) e) t

module _ (k : Chain) (parent : Fid) (n : ℕ) (e : NewEntry) (qs : List ℕ) (x : Cat) (bs : List Block) (own : Owners) (on : StandsOn k (holding qs (Some n)) x bs own) (can : CanBeMade k.geometry n e qs)
    (bare_body : AreBody k.geometry k.node n e.file qs bs own (body_writes k.geometry n e.file qs)) where
  abbrev new : Owners
  new = filed n (things qs (Some n)) own

  takes : Takes k.node n own (filed n (things qs (Some n)) own) (things qs (Some n)) k.stock
  takes = file_takes k.node n own (things qs (Some n)) k.stock on.outs

  within : (q : ℕ) → Has qs q → q < total_of k.geometry
  within q t =
      let at : slice_get own.clusters q ≡ Some (Outside k.node) = (on.outs.clusters.all q).1 (inl t) in
      let a = slice_get_within own.clusters q (Outside k.node) at in
      let b = on.spelt.counts.clusters in
      omega arith

  number_out : slice_get own.numbers (n - 1) ≡ Some (Outside k.node)
  number_out = (on.outs.numbers.all (n - 1)).1 (inl (inl refl))

  plain : is_structure n ≡ false
  plain = not_structure n can.above

  abbrev block : Block
  block = new_header k.geometry parent n e qs

  abbrev mid_blocks : List Block
  mid_blocks = after_writes (body_writes k.geometry n e.file qs) bs

  runs_eq : cut (k.geometry.cluster * e.file.clusters) (runs_in block) ≡ merged (runs_for k.geometry qs)
  runs_eq = cut_is k.geometry parent n e qs on.spelt.counts.geometry can within

  reads : header_read block ≡ Ok (head.Used (fields_for k.geometry n e.file))
  reads = head_is k.geometry parent n e qs on.spelt.counts.geometry can within

  first : head_told block ≡ Ok (head.Used (fields_for k.geometry n e.file))
  first = reads_first block (fields_for k.geometry n e.file) reads refl

  enough : k.geometry.cluster * e.file.clusters ≤ blocks_in (runs_in block)
  enough = omega (arith, listed_is k.geometry parent n e qs on.spelt.counts.geometry can within)

  abbrev tells : Told
  tells = alone n (fields_for k.geometry n e.file) (new_header k.geometry parent n e qs)

  clusters_eq : clusters_told k.geometry tells ≡ qs
  clusters_eq = ap (λ (rs : List Run). clusters_of k.geometry.cluster rs) runs_eq ∙ clusters_for_runs k.geometry on.spelt.counts.geometry.cluster_from qs within

  places_eq : body_places n tells ≡ spread k.geometry.cluster qs
  places_eq = ap (λ t. cond t [] (lbns_in (cut (k.geometry.cluster * e.file.clusters) (runs_in block)))) plain ∙ ap (λ (rs : List Run). lbns_in rs) runs_eq ∙ lbns_merged k.geometry qs

  bare_blocks : IsBare e.file (body_blocks mid_blocks n tells)
  bare_blocks d = ap (λ (ls : List ℕ). directory (blocks_at mid_blocks ls)) places_eq ∙ bare_body.bare d

  -- the file had no number
  only_number : (i : ℕ) → Has ((n - 1) ∷ []) i ⊎ (slice_get own.numbers i ≡ Some (InFile n)) → n ≡ i + 1
  only_number i (inl (inl a)) = let from = can.number.from in omega arith
  only_number i (inl (inr t)) = absurd t
  only_number i (inr u) = absurd (numberless k.geometry bs own x on.spelt i n (λ e. let both : Some (Outside k.node) ≡ Some (InFile n) = sym number_out ∙ e in absurd (cc)) u)

  few_listed : length (clusters_told k.geometry tells) ≤ header_most
  few_listed = subst (λ (ls : List ℕ). length ls ≤ header_most) (sym clusters_eq) can.few

  whole_listed : AreWhole k.geometry (cut (k.geometry.cluster * e.file.clusters) (runs_in block))
  whole_listed = subst (λ (rs : List Run). AreWhole k.geometry rs) (sym runs_eq) (whole_for k.geometry on.spelt.counts.geometry.cluster_from qs within)

  told_then : Tells k.geometry new n tells (body_blocks mid_blocks n tells) (slot.Used e.file)
  told_then =
      let geometry = on.spelt.counts.geometry in
      let t = takes in
      record {
        reads = refl;
        whole = whole_listed;
        once = subst (λ (ls : List ℕ). Once ls) (sym clusters_eq) (once_first qs k.stock.clusters on.outs.clusters.once);
        runs = λ q. (
          (λ u. (t.clusters q).1 (inl (subst (λ (ls : List ℕ). Has ls q) clusters_eq u))),
          (λ u. elim ((t.clusters q).0 u) [ inl v ↦ subst (λ (ls : List ℕ). Has ls q) (sym clusters_eq) v | inr v ↦ absurd (unused k.geometry bs own x k.node n on.spelt can.number number_out q v) ]),
        );
        few = λ above. within_file (length (clusters_told k.geometry tells)) few_listed;
        split = λ above. alone_split k.geometry n (fields_for k.geometry n e.file) block geometry.cluster_from whole_listed few_listed;
        system = λ low. let above = can.above in absurd (omega arith);
        slots = λ m. (
          (λ u. elim u [
            | inl e ↦ subst (λ (i : ℕ). IsFileNumber k.geometry i × (slice_get new.numbers (i - 1) ≡ Some (InFile n))) e (can.number, (t.numbers (n - 1)).1 (inl (inl refl)))
            | inr none ↦ absurd none
          ]),
          (λ u. inl (only_number (m - 1) ((t.numbers (m - 1)).0 u.1) ∙ (let low = u.0.from in let z : m - 1 + 1 ≡ m = omega arith in z))),
        );
        size = alone_size (fields_for k.geometry n e.file) block enough;
        dir = new_dir_told k.geometry parent n e qs (body_blocks mid_blocks n tells) geometry can within bare_blocks;
        slot = new_slot_told k.geometry parent n e qs (body_blocks mid_blocks n tells) geometry can within plain bare_blocks;
      }

  header_for : Spells k.geometry mid_blocks own x → IsHeaderFor k.geometry mid_blocks k.node n n own new x block (slot.Used e.file)
  header_for spelt =
      let t = takes in
      let len = on_volume k.geometry mid_blocks own x spelt (header_place k.geometry n) (InFile 1) (part_owned k.geometry mid_blocks own x spelt (Header n) can.number) in
      record {
        whole = whole_new k.geometry parent n e qs on.spelt.counts.geometry can within;
        number = can.number;
        slot = inl refl;
        owned = subst (IsFileMove k.node n) (sym number_out) refl;
        head = subst (IsHead n) (sym reads) refl;
        alike = λ ne. absurd (ne refl);
        parts = no_parts n plain;
        moves = t.moves;
        tells = subst (λ (z : Told). Tells k.geometry new n z (body_blocks mid_blocks n z) (slot.Used e.file)) (sym (alone_set k.geometry mid_blocks n block (fields_for k.geometry n e.file) len first enough)) told_then;
        reserved = λ old low at. let above = can.above in absurd (omega arith);
      }

pub file_steps : (end : End) → FileSteps end
file_steps end k parent n e qs ws x bs own on can lock charged lost rest =
    let g : Geometry = k.geometry in
    let vs : List PlanWrite = body_writes g n e.file qs in
    let last : PlanWrite = header_write g n (new_header g parent n e qs) stage.Lost empty_handed in
    let body : AreBody g k.node n e.file qs bs own vs = are_body g k.node n e.file qs k.stock bs own x on.spelt on.outs in
    let mid : List Block = after_writes vs bs in
    let to : Owners = filed n (things qs (Some n)) own in
    let t = takes k parent n e qs x bs own on can body in
    let end_is : after_writes (file_writes g parent n e qs) bs ≡ slice_set mid (header_place g n) (new_header g parent n e qs) = after_last vs last bs in
    let behind : Spells g mid own x → Steps end g k.node k.cmd k.locks k.cat k.stock (planned last ∷ map planned ws) mid own =
    λ spelt.
    let for = header_for k parent n e qs x bs own on can body spelt in
    let step : IsStep g k.node k.cmd k.locks k.cat k.stock (planned last) mid own to (with_file x n e.file) =
    (step_kinds g k.node k.cmd k.locks k.cat k.stock).header (planned last) mid own to x n n (slot.Used e.file) spelt refl for lock lost t.outs in
    let stands : StandsOn k empty_handed (with_file x n e.file) (after_writes (file_writes g parent n e qs) bs) to =
    record { spelt = subst (λ (bs' : List Block). Spells g bs' to (with_file x n e.file)) (sym end_is) step.spelt; outs = t.outs } in
    let others : OthersStay g n bs (after_writes (file_writes g parent n e qs) bs) = λ i is ne.
    let stays : IsSameFile g mid (slice_set mid (header_place g n) (new_header g parent n e qs)) i =
    (header_set g mid own to x k.node n n (new_header g parent n e qs) (slot.Used e.file) spelt for).others i is ne ne in
    subst (λ (bs' : List Block). IsSameFile g bs bs' i) (sym end_is) (same_on g bs mid (slice_set mid (header_place g n) (new_header g parent n e qs)) i
    (files_stay g k.node stage.Charged (things qs (Some n)) (map planned vs) bs own x on.spelt body.each i is) stays) in
    (to, with_file x n e.file, step, subst (λ (bs' : List Block). StepsOf end k ws bs' to) end_is (rest to stands others)) in
    subst (λ (us : List PlannedWrite). Steps end g k.node k.cmd k.locks k.cat k.stock us bs own) (sym (in_a_row vs ws last))
    (outside_series end g k.node k.cmd k.locks k.cat x k.stock (things qs (Some n)) stage.Charged (map planned vs) (planned last ∷ map planned ws) bs own on.spelt charged on.outs body.each behind)
