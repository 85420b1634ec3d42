-- The write of a block of a file that is no directory is a step.
use Rattle.std.proofs.Common.{◌≡◌, ◌-◌, ◌∙◌, ℕ, Bool, false, List, [], ◌∷◌, Some, None, drop, slice_set, get_or-set_other, sym, ap, inr}
use Rattle.std.specs.Prelude.{Ok}
use Rattle.base_words.specs.Fields.{Block}
use Rattle.base_words.specs.Lists.{Has}
use Rattle.fx_header.specs.declared.slot.Slot.TheVariants as head
use Rattle.fx_header.specs.Pointers.{lbns_in}
use Rattle.plain_cat.specs.declared.cat.File.{File}
use Rattle.plain_cat.specs.declared.cat.Slot.TheVariants as slot
use Rattle.plain_rules.specs.Changes.{with_file}
use Rattle.vol_spell.specs.Spread.{blocks_at}
use Rattle.vol_parts.specs.declared.geometry.Geometry.{Geometry}
use Rattle.vol_parts.specs.declared.geometry.Part.TheVariants.{Header}
use Rattle.vol_parts.specs.Parts.{part_of}
use Rattle.vol_parts.specs.Volumes.{fields_in, Told}
use Rattle.vol_parts.specs.Catalogues.{slot_with, file_of}
use Rattle.vol_spell.specs.Reading.{IsFileNumber, header_place, header_block, told_of, body_blocks}
use Rattle.vol_spell.specs.Spelling.{dir_found}
use Rattle.vol_spell.specs.Kinds.{IsBodyFor}
use Rattle.vol_spell.specs.Views.{IsFileAt}
use Rattle.vol_spell.proofs.Parts.{part_there, slot_number}
use Rattle.vol_spell.proofs.Viewing.{body_set}
use Rattle.vol_under.specs.Chains.{End, IsStep}
use Rattle.vol_under.proofs.Reach.{step_kinds}
use Rattle.op_law.specs.declared.need.PlanWrite.{PlanWrite}
use Rattle.op_law.specs.Laws.{planned}
use Rattle.op_law.specs.SeenFiles.{file_place, file_write}
use Rattle.op_steps.specs.Files.{file_in}
use Rattle.op_steps.specs.BlockWrites.{BlockSteps}
use Rattle.vol_spell.specs.Files.{showing}
use Rattle.op_steps.proofs.Places.{body_place, lies}
use Rattle.op_steps.proofs.WholeFiles.{whole_same}
use Rattle.vol_spell.proofs.FilePlaces.{places, body, no_dir, shows}

-- a number behind the first one is one of them
in_slots : (ns : List ℕ) (m : ℕ) → Has (drop 1 ns) m → Has ns m
in_slots [] m t = absurd t
in_slots (n ∷ ns) m t = inr t

pub block_steps : (end : End) → BlockSteps end
block_steps end k n h f vbn b s ws x bs own on has whole stage rest =
    let g : Geometry = k.geometry in
    let there = has.there in
    let first : Block = header_block g bs n in
    let w : PlanWrite = file_write (file_in g bs n h) vbn b s in
    let l : ℕ = file_place (file_in g bs n h) vbn in
    let new : File = showing f vbn b in
    let old : List Block = body_blocks bs n (told_of g bs n) in
    let at = body_place g bs own x n h f on.spelt there vbn has.from has.to in
    let flat : h.dir ≡ false = no_dir g bs own x n h f on.spelt there has.flat in
    let head_is : (told_of g bs n).head ≡ Ok (head.Used h) = there.reads in
    let is : IsBodyFor g bs n (vbn - 1) l b (slot.Used new) = record {
      whole = whole;
      number = there.number;
      place = at;
      dir = ap (λ r. dir_found g n (fields_in r) (told_of g bs n) (slice_set old (vbn - 1) b)) head_is
          ∙ ap (λ (d : Bool). dir_found g n (Some (record h { dir = d })) (told_of g bs n) (slice_set old (vbn - 1) b)) flat;
      slot = ap (λ r. slot_with g.cluster n r (slice_set old (vbn - 1) b)) head_is
          ∙ ap (λ (ys : List Block). slot.Used (file_of g.cluster n h (slice_set ys (vbn - 1) b))) (body g bs own x n h f on.spelt there)
          ∙ ap (λ (y : File). slot.Used y) (shows g bs own x n h f on.spelt there vbn has.from has.to has.flat b);
    } in
    let kept : (m : ℕ) → IsFileNumber g m → header_block g (slice_set bs l b) m ≡ header_block g bs m =
    λ m number.
    get_or-set_other bs l (header_place g m) b []
    (λ e.
    let both : Some (Header m) ≡ None = sym (part_there g bs own x on.spelt (Header m) number) ∙ ap (part_of g) e ∙ (lies g bs own x n h f on.spelt there vbn has.from has.to).no_part in
    absurd (cc both)) in
    let step : IsStep g k.node k.cmd k.locks k.cat k.stock (planned w) bs own own (with_file x n new) =
    (step_kinds g k.node k.cmd k.locks k.cat k.stock).body (planned w) bs own x n (vbn - 1) (slot.Used new) on.spelt is stage on.outs in
    let set : IsFileAt g (slice_set bs l b) n first (told_of g bs n) (slice_set old (vbn - 1) b) = body_set g bs own x n (vbn - 1) l b on.spelt there.number at in (
      own,
      with_file x n new,
      step,
      rest (record {
        on = record { spelt = step.spelt; outs = on.outs };
        header = set.header;
        seen = λ y. whole_same g bs (slice_set bs l b) n y set.told set.header (λ m t. kept m (slot_number g bs own x on.spelt n m there.number (in_slots (told_of g bs n).slots m t)));
        blocks = ap (λ (t : Told). blocks_at (slice_set bs l b) (lbns_in t.runs)) set.told
            ∙ ap (blocks_at (slice_set bs l b)) (sym (places g bs own x n h f on.spelt there))
            ∙ ap (body_blocks (slice_set bs l b) n) (sym set.told)
            ∙ set.body
            ∙ ap (λ (ys : List Block). slice_set ys (vbn - 1) b) (body g bs own x n h f on.spelt there);
      }),
    )
