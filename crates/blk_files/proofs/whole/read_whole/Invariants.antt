use Rattle.std.proofs.Common.{◌≡◌, ◌≤◌, ◌-◌}
use Rattle.blk_files.specs.Reading.{IsRead}
use Rattle.blk_files.proofs.whole.read_whole.Given as goal

abbrev pub invariant-loop-lbn : goal.invariant-loop-lbn
invariant-loop-lbn g l = record {
  low : l.lbn ≤ l.size;
  stays : g.F.ByteFile.bytes l.file ≡ g.F.ByteFile.bytes l.fn.file;
  read : IsRead l.lbn (g.F.ByteFile.bytes l.fn.file) l.whole.notes.bytes l.whole.all.items;
}

abbrev pub decreases-loop-lbn : goal.decreases-loop-lbn
decreases-loop-lbn g l = l.size - l.lbn
