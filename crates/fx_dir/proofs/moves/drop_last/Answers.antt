use Rattle.std.proofs.Common.{◌∙◌, sym}
use Rattle.fx_dir.proofs.Moving.{less_last-drops, less_last-keeps}
use Rattle.fx_dir.proofs.moves.drop_last.Goals as goal

pub returns-then-last-vbn : goal.returns-then-last-vbn
returns-then-last-vbn c =
    let h = c.in-Some.ensures.items in
    let k = c.push_reserved.ensures.items in
    k ∙ sym (less_last-keeps c.args.vbn c.pop.new.self.items c.args.moves.now.items c.in-Some.last h c.if-last-vbn.true)

pub returns-else-last-vbn : goal.returns-else-last-vbn
returns-else-last-vbn c =
    let h = c.in-Some.ensures.items in
    sym (less_last-drops c.args.vbn c.pop.new.self.items c.args.moves.now.items c.in-Some.last h c.if-last-vbn.false)
