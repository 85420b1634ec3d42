use Rattle.std.proofs.Common.{◌∙◌, ◌≤◌, ◌<◌, ap, length, arith}
use Rattle.blk_drive.proofs.Loads.{read-more}
use Rattle.blk_drive.proofs.memory.MemImageImageDev.read_onto.Goals as goal

pub loop-at-preserved : goal.loop-at-preserved
loop-at-preserved c =
    let h = c.loop-at.invariant in
    let called = c.next_failure.ensures.called in
    let low : c.args.lbn ≤ c.loop-at.at = omega arith in
    let within : c.loop-at.at < length c.args.self.now.blocks = omega arith in
    record {
      items = read-more c.args.self.now.blocks c.self.inside.blocks.items c.args.lbn c.loop-at.at c.args.all.now.items c.loop-at.all.items c.push_reserved.new.self.items _ low within h.items
          (ap (λ m. m.blocks) c.self.view_is ∙ ap (λ m. m.blocks) called ∙ h.same) c.index.ensures c.push_reserved.ensures.items;
      count = omega (arith, c.push_reserved.ensures.len, h.count);
      room = c.push_reserved.ensures.capacity ∙ h.room;
      same = ap (λ m. m.blocks) called ∙ h.same;
      later = omega (arith, h.later, c.next_failure.ensures.later);
      kept = ap (λ m. m.lost) called ∙ h.kept;
    }
