-- Whether the entries of a directory with one more pack into its blocks.
use Rattle.std.specs.Prelude.{ℕ, Bool, true, false, List, [], ◌∷◌}
use Rattle.base_words.specs.Packing.{over}
use Rattle.fx_dir.specs.declared.RawEnt.{RawEnt}
use Rattle.fx_dir.specs.Moves.{inserted}
use Rattle.fx_dir.specs.Writing.{name_of}

abbrev pub is_none_left : List RawEnt → Bool
is_none_left [] = true
is_none_left (e ∷ es) = false

-- greedy packing puts the entries es, with e in its place among them, into k blocks
unfoldable pub has_room : ℕ → RawEnt → List RawEnt → Bool
has_room k e es = is_none_left (over name_of k (inserted e es))
