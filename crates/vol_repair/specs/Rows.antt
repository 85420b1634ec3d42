-- The quota rows while a repair writes them one by one, each by its number, which counts from 0 through all quota blocks.
use Rattle.std.specs.Prelude.{◌≡◌, ◌+◌, ◌*◌, ◌<◌, ◌⊎◌, ◌++◌, ◌==◌, ℕ, List, [], ◌∷◌, Option, Some, None, length, map, if◌then◌else◌}
use Rattle.std.specs.List.{list_any}
use Rattle.base_words.specs.Fields.{Block}
use Rattle.fx_home.specs.declared.home.Home.{Home}
use Rattle.fx_quota.specs.declared.types.Row.{Row}
use Rattle.vol_parts.specs.Volumes.{volume, body, active_rows}
use Rattle.vol_spell.specs.Rows.{row_seen}
use Rattle.vol_sound.specs.Begun.{first_rows}
use Rattle.vol_repair.specs.Touched.{IsGround, IsRowPlace, IsMadeIn}

-- what the row of a number says, or none where it is not active
abbrev pub numbered_row : Home → List Block → ℕ → Option Row
numbered_row home bs j = row_seen (body (volume home bs) 10) j

-- a row, or none where its owner is among these
abbrev pub settled : List ℕ → Option Row → Option Row
settled seen None = None
settled seen (Some r) = if list_any (λ n. n == r.uic) seen then None else Some r

-- the owner of a row, if there is one
abbrev pub owner_in : Option Row → List ℕ
owner_in None = []
owner_in (Some r) = r.uic ∷ []

-- One row is this one, or not active; the other rows are the same, and so are all blocks but those of the quota file.
pub record IsRowSet (home : Home) (first old new : List Block) (j : ℕ) (row : Option Row) : Type 0 where
  pub ground : IsGround home first new
  pub count : length (body (volume home new) 10) ≡ length (body (volume home old) 10)
  pub rows : (i : ℕ) → numbered_row home new i ≡ (if i == j then row else numbered_row home old i)
  pub others : IsMadeIn (IsRowPlace (volume home first)) old new

-- One row is not active if its owner has been seen; else its owner is seen now.
pub record IsRowSettled (home : Home) (first old new : List Block) (j : ℕ) (seen now : List ℕ) : Type 0 where
  pub set : IsRowSet home first old new j (settled seen (numbered_row home old j))
  pub noted : now ≡ seen ++ owner_in (settled seen (numbered_row home old j))

-- Of the rows of each owner the first one is active, and these are their owners.
pub record AreRowsSettled (home : Home) (first old new : List Block) (seen : List ℕ) : Type 0 where
  pub ground : IsGround home first new
  pub count : length (body (volume home new) 10) ≡ length (body (volume home old) 10)
  pub rows : active_rows (volume home new) ≡ first_rows (active_rows (volume home old))
  pub noted : seen ≡ map (λ r. r.uic) (active_rows (volume home new))
  pub others : IsMadeIn (IsRowPlace (volume home first)) old new

-- a row for [1,1]: one that is not active, or the last one, where each is
pub record IsSystemPlace (home : Home) (bs : List Block) (j : ℕ) : Type 0 where
  pub inside : j < 16 * home.cluster
  pub free : (numbered_row home bs j ≡ None) ⊎ ((j + 1 ≡ 16 * home.cluster) × ((i : ℕ) → i < 16 * home.cluster → numbered_row home bs i ≡ None → ⊥))
