-- The deaths of a history.
use Rattle.std.specs.Prelude.{◌-◌, ℕ, Bool, true, false, List}
use Rattle.std.specs.List.{count_by, range_with_len}
use Rattle.plain_cat.specs.declared.history.Entry.{Entry}
use Rattle.plain_cat.specs.declared.history.Entry.TheVariants.{Done, Died, Mended}
use Rattle.plain_rules.specs.Own.{past}

-- an entry is a death
abbrev pub is_fall : Entry → Bool
is_fall (Done n x r) = false
is_fall (Died n stage clusters numbers) = true
is_fall (Mended m) = false

-- how many there are
abbrev pub falls : List Entry → ℕ
falls h = count_by is_fall h

-- how many of the nodes from 1 to this number are dead
abbrev pub fallen : List Entry → ℕ → ℕ
fallen h last = count_by (λ n. (past n h).dead) (range_with_len 1 last)

-- how many of them live
abbrev pub living : List Entry → ℕ → ℕ
living h last = last - fallen h last
