use Rattle.std.proofs.Common.{◌≡◌, ◌+◌, ◌++◌, ℕ, map}
use Rattle.base_words.specs.Packing.{pack, over}
use Rattle.fx_dir.specs.Lists.{Each}
use Rattle.fx_dir.specs.Writing.{IsInForm, IsRanged, name_of, block_of}
use Rattle.fx_dir.proofs.packing.pack_onto.Given as goal

abbrev pub invariant-loop-i : goal.invariant-loop-i
invariant-loop-i l = record {
  form : Each IsInForm l.rest;
  ranged : (n : ℕ) → n + l.i ≡ l.count → Each (λ g. Each IsRanged g) (pack name_of n l.rest) → Each (λ g. Each IsRanged g) (pack name_of l.count l.es);
  blocks_so_far : (n : ℕ) → n + l.i ≡ l.count → l.blocks.items ++ map block_of (pack name_of n l.rest) ≡ l.initial.blocks.items ++ map block_of (pack name_of l.count l.es);
  left : (n : ℕ) → n + l.i ≡ l.count → over name_of n l.rest ≡ over name_of l.count l.es;
}
