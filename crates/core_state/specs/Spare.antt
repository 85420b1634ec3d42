-- Lists of file numbers with room for those of a death.
use Rattle.std.specs.Prelude.{◌≡◌, ◌≤◌, ℕ, List, [], All}
use Rattle.plain_cat.specs.Spared.{Spared}

-- a list is empty, and has room for all file numbers of a volume
pub record IsSpare (l : Spared ℕ) : Type 0 where
  pub empty : l.items ≡ []
  pub room : 4096 ≤ l.room

-- so is each
abbrev pub AreSpare : List (Spared ℕ) → Type 0
AreSpare ls = All IsSpare ls
