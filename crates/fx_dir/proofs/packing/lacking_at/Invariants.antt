use Rattle.std.proofs.Common.{◌≡◌, ◌+◌, ℕ, [], slice_index_or}
use Rattle.base_words.specs.Packing.{pack}
use Rattle.fx_dir.specs.Lists.{Each}
use Rattle.fx_dir.specs.Moves.{place}
use Rattle.fx_dir.specs.Writing.{IsInForm, name_of}
use Rattle.fx_dir.proofs.packing.lacking_at.Given as goal

abbrev pub invariant-loop-i : goal.invariant-loop-i
invariant-loop-i l = record {
  form : Each IsInForm l.rest;
  place_on : (n : ℕ) → n + l.i ≡ l.count → place l.e (pack name_of l.count l.es) ≡ place l.e (pack name_of n l.rest) + l.i;
  block_on : (n : ℕ) → n + l.i ≡ l.count → slice_index_or (pack name_of l.count l.es) (place l.e (pack name_of l.count l.es)) [] ≡ slice_index_or (pack name_of n l.rest) (place l.e (pack name_of n l.rest)) [];
}
