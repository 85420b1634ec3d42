use Rattle.std.proofs.Common.{◌≡◌, ◌∙◌, ◌+◌, ◌-◌, ◌++◌, [], ◌∷◌, ℕ, map, ap, sym, arith, append_assoc}
use Rattle.std.specs.List.{range_with_len}
use Rattle.std.proofs.lemmas.List.FromFn.{map-range_with_len_more}
use Rattle.base_words.specs.Fields.{Block}
use Rattle.base_words.specs.Tables.{zeros}
use Rattle.plain_cat.specs.declared.history.Stage.TheVariants as stage
use Rattle.op_law.specs.declared.need.PlanWrite.{PlanWrite}
use Rattle.op_law.specs.SeenFiles.{file_write}
use Rattle.op_steps.specs.Seeing.{file_seen}
use Rattle.op_data.proofs.writing.push_zeros.Goals as goal

pub loop-v-preserved : goal.loop-v-preserved
loop-v-preserved c =
    let f = file_seen c.args.g.now c.args.f.now in
    let old = c.args.writes.now in
    let mark = c.args.f.now.fields.mark in
    let v = c.loop-v.v in
    let of_block : ℕ → PlanWrite = λ u. file_write f u zeros stage.Nothing in
    let next : c.loop-v.v + 1 - c.args.f.now.fields.mark ≡ c.loop-v.v - c.args.f.now.fields.mark + 1 = omega arith in
    let same : c.args.f.now.fields.mark + (c.loop-v.v - c.args.f.now.fields.mark) ≡ c.loop-v.v = omega arith in
    let test = c.loop-v-test.true in
    record {
      same = c.in_ok-push.ensures.ok
          ∙ ap (λ w. c.loop-v.writes ++ w ∷ []) (c.file_write.ensures ∙ ap (λ (b : Block). file_write f v b stage.Nothing) c.zeros-block.ensures)
          ∙ ap (λ ws. ws ++ of_block v ∷ []) c.loop-v.invariant.same
          ∙ append_assoc old (map of_block (range_with_len mark (v - mark))) (of_block v ∷ [])
          ∙ ap (λ ws. old ++ ws) (sym (map-range_with_len_more of_block mark (v - mark) v same))
          ∙ ap (λ j. old ++ map of_block (range_with_len mark j)) (sym next);
      within = omega arith;
    }

pub returns : goal.returns
returns c =
    let f = file_seen c.args.g.now c.args.f.now in
    let mark = c.args.f.now.fields.mark in
    let of_block : ℕ → PlanWrite = λ u. file_write f u zeros stage.Nothing in
    let out = c.loop-v-test.false in
    let few = c.loop-v.invariant.within in
    let all : c.loop-v.v - c.args.f.now.fields.mark ≡ c.args.vbn - c.args.f.now.fields.mark = omega arith in
    c.loop-v.invariant.same ∙ ap (λ j. c.args.writes.now ++ map of_block (range_with_len mark j)) all
