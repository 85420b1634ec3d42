-- No chain of entries returns once directories have lost what leads back to them.
use Rattle.std.specs.Prelude.{◌≡◌, ℕ, Some}
use Rattle.plain_cat.specs.declared.cat.Cat.{Cat}
use Rattle.plain_cat.specs.declared.cat.File.{File}
use Rattle.plain_rules.specs.Lookups.{file_at}
use Rattle.vol_parts.specs.Fatal.{Path}
use Rattle.vol_sound.specs.Begun.{without_own, without_loops}

-- where the master file directory has its sequence
abbrev pub NoLoopIsLeft : Type 0
NoLoopIsLeft = (c : Cat) (f : File) → file_at c 4 ≡ Some f → f.seq ≡ 4 → (n : ℕ) → Path (without_loops (without_own c)) n n → ⊥
