use Rattle.std.proofs.Common.{◌≡◌, ◌≤◌, ◌∙◌, ◌++◌, ℕ, List, length, ap, arith}
use Rattle.std.proofs.lemmas.List.{length-map}
use Rattle.base_words.specs.Fields.{Block}
use Rattle.op_law.specs.declared.need.PlanWrite.{PlanWrite}
use Rattle.op_law.specs.Removing.{unnaming_writes}
use Rattle.op_law.specs.Behind.{blocks_alone}
use Rattle.op_steps.specs.Names.{dir_seen}
use Rattle.op_steps.specs.Seeing.{file_seen}
use Rattle.op_delete.proofs.Brief.{first_few}
use Rattle.op_delete.proofs.deleting.deleted.Goals as goal

pub overflow_cast-at : goal.overflow_cast-at
overflow_cast-at c =
    let g = c.args.g.now in
    let d = c.args.d.now in
    let f = c.args.f.now in
    let few = c.requires.entry.few in
    let count = length-map d.blocks.now (λ (s : ℕ × Block). s.1) in
    let small : length (blocks_alone d.blocks.now) ≤ 16 = omega arith in
    let ws : List PlanWrite = unnaming_writes g (dir_seen d) c.args.e.now (file_seen g f) in
    let most = first_few g (dir_seen d) c.args.e.now (file_seen g f) small in
    let is : c.items.result.now ≡ ws = c.items.ensures ∙ c.in_ok-push_unnaming.ensures ∙ ap (λ (vs : List PlanWrite). vs ++ ws) c.new-writes.ensures in
    let n : length c.items.result.now ≡ length ws = ap length is in
    omega arith
