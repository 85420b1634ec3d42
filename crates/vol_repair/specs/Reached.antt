-- Flags that tell where the entries of a catalogue lead.
use Rattle.std.specs.Prelude.{◌≡◌, ◌≤◌, ◌+◌, ◌||◌, ℕ, Bool, false, List, [], ◌∷◌, length, map, slice_index_or, if◌then◌else◌}
use Rattle.std.specs.List.{range_with_len}
use Rattle.plain_cat.specs.declared.cat.Cat.{Cat}
use Rattle.vol_faults.specs.Reaching.{leads}
use Rattle.vol_sound.specs.Leading.{leads_by}

-- a flag of a row, which is not set where the row has none
abbrev pub flag_at : List Bool → ℕ → Bool
flag_at row m = slice_index_or row m false

abbrev pub row_at : List (List Bool) → ℕ → List Bool
row_at rows n = slice_index_or rows n []

-- for each number, from 0 on, whether an entry of directory n leads to it
abbrev pub row_of : Cat → ℕ → List Bool
row_of c n = map (leads c n) (range_with_len 0 (length c.files + 1))

-- such a row for each number, from 0 on
abbrev pub rows_of : Cat → List (List Bool)
rows_of c = map (row_of c) (range_with_len 0 (length c.files + 1))

-- a row, in which the flags of another one are set as well
abbrev pub either : List Bool → List Bool → List Bool
either [] vs = []
either (a ∷ us) [] = a ∷ us
either (a ∷ us) (b ∷ vs) = (a || b) ∷ either us vs

-- a row that leads to number x leads to where that one's row leads as well
abbrev pub passed_row : ℕ → List Bool → List Bool → List Bool
passed_row x through row = if flag_at row x then either row through else row

abbrev pub passed : ℕ → List (List Bool) → List (List Bool)
passed x rows = map (passed_row x (row_at rows x)) rows

-- the flags tell whether entries lead from one number to another, by way of these
pub record AreRows (c : Cat) (xs : List ℕ) (rows : List (List Bool)) : Type 0 where
  pub count : length rows ≡ length c.files + 1
  pub long : (n : ℕ) → n ≤ length c.files → length (row_at rows n) ≡ length c.files + 1
  pub each : (n m : ℕ) → flag_at (row_at rows n) m ≡ leads_by c xs n m
