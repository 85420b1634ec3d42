use Rattle.std.proofs.Common.{◌∙◌, ◌≤◌, ◌<◌, length, refl, arith}
use Rattle.run_trace.proofs.Copies.{read-more}
use Rattle.run_trace.proofs.copied.CopiedImageDev.read_onto.Goals as goal

pub loop-at-preserved : goal.loop-at-preserved
loop-at-preserved c =
    let h = c.loop-at.invariant in
    let low : c.args.lbn ≤ c.loop-at.at = omega arith in
    let within : c.loop-at.at < length c.args.self.now = omega arith in
    record {
      items = read-more c.args.self.now c.self.inside.blocks.items c.args.lbn c.loop-at.at c.args.all.now.items c.loop-at.all.items c.push_reserved.new.self.items _ low within h.items
          c.self.view_is c.index.ensures c.push_reserved.ensures.items;
      count = omega (arith, c.push_reserved.ensures.len, h.count);
      room = c.push_reserved.ensures.capacity ∙ h.room;
      same = refl;
    }
