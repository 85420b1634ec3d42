-- Blocks that are filled with entries, one after the other, by the bytes that each takes.
use Rattle.std.specs.Prelude.{◌+◌, ◌-◌, ◌==◌, ◌||◌, ◌&&◌, not, leb, ltb, ℕ, Bool, true, false, List, [], ◌∷◌, Option, Some, None, option_copied, if◌then◌else◌}
use Rattle.std.specs.Str.{bytes_eq}
use Rattle.base_words.specs.Packing.{cost}
use Rattle.fx_dir.specs.declared.RawEnt.{RawEnt}
use Rattle.fx_dir.specs.Entries.{lower, before}
use Rattle.fx_dir.specs.declared.room.Filling.{Filling}
use Rattle.fx_dir.specs.declared.room.Trial.{Trial}

-- The blocks behind the one that is being filled; the bytes in use in that one, and the name of its last record; and whether an
-- entry had no room.
pub record Filled : Type 0 where
  pub behind : ℕ
  pub used : ℕ
  pub last : Option (List ℕ)
  pub full : Bool

abbrev pub filled_of : Filling → Filled
filled_of f = record { behind = f.behind; used = f.used; last = option_copied f.last; full = f.full }

-- an entry of this name begins the next block, if there is one
abbrev pub in_next : Filled → List ℕ → Filled
in_next f name =
    if (f.behind == 0) || not (leb (cost None name) 510) then record f { full = true } else record { behind = f.behind - 1; used = cost None name; last = Some name; full = false }

-- an entry of this name more
unfoldable pub pushed : Filled → List ℕ → Filled
pushed f name =
    if f.full then f else if leb (f.used + cost f.last name) 510 then record f { used = f.used + cost f.last name; last = Some name } else in_next f name

-- these entries more
abbrev pub filled_by : Filled → List RawEnt → Filled
filled_by f [] = f
filled_by f (e ∷ es) = filled_by (pushed f e.name) es

-- one of this name and version is before one of that
unfoldable pub is_first : List ℕ → ℕ → List ℕ → ℕ → Bool
is_first name ver other other_ver = lower name other || (bytes_eq name other && ltb other_ver ver)

-- what is filled, and whether the new entry is still to come
pub record Tried : Type 0 where
  pub filled : Filled
  pub waiting : Bool

abbrev pub tried_of : Trial → Tried
tried_of t = record { filled = filled_of t.filling; waiting = t.waiting }

-- the next entry, and in front of it the new one where that comes before it
unfoldable pub taken_in : RawEnt → Tried → RawEnt → Tried
taken_in e t x =
    if t.waiting && before e x then record { filled = pushed (pushed t.filled e.name) x.name; waiting = false } else record t { filled = pushed t.filled x.name }
