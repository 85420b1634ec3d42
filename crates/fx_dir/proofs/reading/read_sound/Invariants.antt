use Rattle.std.proofs.Common.{◌≡◌, ℕ, true, drop}
use Rattle.fx_dir.specs.Lists.{Each}
use Rattle.fx_dir.specs.Entries.{rises}
use Rattle.fx_dir.specs.Directory.{directory, read_on}
use Rattle.fx_dir.specs.Writing.{IsInForm}
use Rattle.fx_dir.proofs.reading.read_sound.Given as goal

abbrev pub invariant-loop-b : goal.invariant-loop-b
invariant-loop-b l = record {
  so_far : (vbn : ℕ) × (read_on vbn l.met.items (drop l.b-index l.blocks) ≡ directory l.blocks);
  form : Each IsInForm l.met.items;
  order : rises l.met.items ≡ true;
}
