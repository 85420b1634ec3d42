use Rattle.std.proofs.Common.{◌≡◌, ◌<◌, ◌≤◌, ℕ, Some, None, length}
use Rattle.base_words.specs.Fields.{block_at as block_in}
use Rattle.vol_init.specs.Plans.{ArePut, told_at}
use Rattle.vol_init.proofs.making.put_parts.Given as goal

abbrev pub invariant-loop-lbn : goal.invariant-loop-lbn
invariant-loop-lbn g l =
    let I = g.I.ImageDev in
    record {
      put : ArePut l.plan l.lbn l.fn.m.blocks l.m.blocks;
      low : (k : ℕ) → k < 2 → block_in l.m.blocks k ≡ block_in l.fn.m.blocks k;
      image : I.told l.fn.m.image ≡ Some l.fn.m.blocks → I.told l.m.image ≡ Some l.m.blocks;
      untold : I.told l.fn.m.image ≡ None → I.told l.m.image ≡ None;
      home : told_at (I.told l.m.image) 1 ≡ told_at (I.told l.fn.m.image) 1;
      size : I.size l.m.image ≡ I.size l.fn.m.image;
      count : length l.m.blocks ≡ length l.fn.m.blocks;
      later : I.faults l.fn.m.image ≤ I.faults l.m.image;
    }
