-- What is known while chains of entries are followed from directory to directory.
use Rattle.std.specs.Prelude.{◌≡◌, ◌≢◌, ◌⊎◌, ◌<◌, ◌≤◌, ◌+◌, ◌*◌, ◌-◌, ◌++◌, ℕ, Bool, true, false, ⊤, List, [], ◌∷◌, length, take, drop, Option, Some, None, slice_index_or, slice_set}
use Rattle.std.specs.List.{list_any, count_by}
use Rattle.plain_cat.specs.declared.entries.DirEnt.{DirEnt}
use Rattle.plain_cat.specs.declared.cat.Cat.{Cat}
use Rattle.vol_parts.specs.Fatal.{Path}
use Rattle.plain_rules.specs.SystemFiles.{entries_of}
use Rattle.vol_faults.specs.Reaching.{is_step, is_step_to, leads, waits}
use Rattle.vol_faults.specs.declared.loops.Place.{Place}
use Rattle.vol_faults.specs.declared.loops.Place.TheVariants.{New, At, Closed}
use Rattle.vol_faults.specs.declared.loops.Walk.{Walk}

-- these entries of directory n lead to number m
abbrev pub leads_among : Cat → ℕ → List DirEnt → ℕ → Bool
leads_among c n es m = list_any (is_step_to c n m) es

-- the number at a place of the way
abbrev pub number_at : Walk → ℕ → ℕ
number_at w i = slice_index_or w.way.items i 0

-- the place where the loop begins that is known to lead through a place of the way, which may be that place alone
abbrev pub begin_at : Walk → ℕ → ℕ
begin_at w i = slice_index_or w.begins.items i 0

abbrev pub place_of : Walk → ℕ → Place
place_of w n = slice_index_or w.places.items n New

-- how many entries of a directory were looked at
abbrev pub looked_at : Walk → ℕ → ℕ
looked_at w n = slice_index_or w.looked.items n 0

abbrev pub is_new : Place → Bool
is_new New = true
is_new (At i) = false
is_new Closed = false

-- how many numbers no chain has led to yet
abbrev pub new_numbers : Walk → ℕ
new_numbers w = count_by is_new w.places.items

-- a number was found, and this one is no lower
abbrev pub IsNoHigher : Option ℕ → ℕ → Type 0
IsNoHigher None n = ⊥
IsNoHigher (Some m) n = m ≤ n

-- the number that was found is on a loop
abbrev pub IsOnLoop : Cat → Option ℕ → Type 0
IsOnLoop c None = ⊤
IsOnLoop c (Some n) = Path c n n

-- An entry of the number at a place leads to a number that stands so: all chains from it were followed, or it is on the way
-- no nearer to the start than the loop through that place begins. A number that leads to itself is noted.
abbrev pub IsMet : (ℕ → ℕ) → (ℕ → ℕ) → Option ℕ → ℕ → Place → Type 0
IsMet at begin lowest i New = ⊥
IsMet at begin lowest i (At p) = (begin i ≤ p) × (p ≡ i → IsNoHigher lowest (at i))
IsMet at begin lowest i Closed = ⊤

-- The way: numbers of which each leads to all behind it, and to all from the beginning of its loop on. What an entry that was
-- looked at leads to is known. From a closed number all chains were followed, and the lowest number on a loop is noted.
pub record IsWay (c : Cat) (size : ℕ) (at begin : ℕ → ℕ) (place : ℕ → Place) (looked : ℕ → ℕ) (lowest : Option ℕ) : Type 0 where
  pub placed : (i : ℕ) → i < size → place (at i) ≡ At i
  pub opened : (n p : ℕ) → place n ≡ At p → (p < size) × (at p ≡ n)
  pub fresh : (n : ℕ) → place n ≡ New → looked n ≡ 0
  pub forth : (i j : ℕ) → i < j → j < size → Path c (at i) (at j)
  pub back : (i j : ℕ) → i < size → begin i ≤ j → j < i → Path c (at i) (at j)
  pub low : (i : ℕ) → i < size → begin i ≤ i
  pub nested : (i j : ℕ) → j < size → begin j ≤ i → i ≤ j → begin i ≡ begin j
  pub met : (i m : ℕ) → i < size → leads_among c (at i) (take (looked (at i)) (entries_of c (at i))) m ≡ true → IsMet at begin lowest i (place m)
  pub closed : (n m : ℕ) → place n ≡ Closed → leads c n m ≡ true → place m ≡ Closed
  pub told : (n : ℕ) → place n ≡ Closed → Path c n n → IsNoHigher lowest n
  pub loops : IsOnLoop c lowest

-- Chains are followed so far: from the end on, all entries of the way were looked at, and the last loop begins before.
pub record IsWalk (c : Cat) (w : Walk) : Type 0 where
  pub all : length w.places.items ≡ length c.files + 1
  pub looks : length w.looked.items ≡ length c.files + 1
  pub begins : length w.begins.items ≡ length w.way.items
  pub few : new_numbers w + length w.way.items ≤ length c.files + 1
  pub way : IsWay c (length w.way.items) (number_at w) (begin_at w) (place_of w) (looked_at w) w.lowest
  pub end : w.end ≤ length w.way.items
  pub last : begin_at w (length w.way.items - 1) ≤ w.end
  pub done : (i : ℕ) → w.end ≤ i → i < length w.way.items → length (entries_of c (number_at w i)) ≤ looked_at w (number_at w i)

-- this number was put on the way, behind all others
pub record IsPushed (n : ℕ) (w after : Walk) : Type 0 where
  pub way : after.way.items ≡ w.way.items ++ n ∷ []
  pub begins : after.begins.items ≡ w.begins.items ++ length w.way.items ∷ []
  pub places : after.places.items ≡ slice_set w.places.items n (At (length w.way.items))
  pub looked : after.looked.items ≡ w.looked.items
  pub lowest : after.lowest ≡ w.lowest
  pub end : after.end ≡ length w.way.items + 1

-- a number is taken for the lowest one where none that was found is lower
pub record IsLowered (n : ℕ) (lowest after : Option ℕ) : Type 0 where
  pub there : IsNoHigher after n
  pub kept : (m : ℕ) → IsNoHigher lowest m → IsNoHigher after m
  pub one : (after ≡ lowest) ⊎ (after ≡ Some n)

-- from this place on all of the way is one loop, which begins where that through this place began
pub record IsJoined (place : ℕ) (begins after : List ℕ) : Type 0 where
  pub long : length after ≡ length begins
  pub same : (i : ℕ) → i < place → slice_index_or after i 0 ≡ slice_index_or begins i 0
  pub joined : (i : ℕ) → place ≤ i → i < length begins → slice_index_or after i 0 ≡ slice_index_or begins place 0

-- nothing else changed than where loops begin, and the lowest number that was found on one
pub record IsSameWay (w after : Walk) : Type 0 where
  pub way : after.way.items ≡ w.way.items
  pub places : after.places.items ≡ w.places.items
  pub looked : after.looked.items ≡ w.looked.items
  pub end : after.end ≡ w.end

-- Number n at the end led back to this place: all behind it is one loop, unless it was before, and n is noted where it led to
-- itself.
pub record IsBack (n place : ℕ) (w after : Walk) : Type 0 where
  pub same : IsSameWay w after
  pub begins : (IsJoined place w.begins.items after.begins.items)
      ⊎ ((slice_index_or w.begins.items (length w.begins.items - 1) 0 ≤ place) × (after.begins.items ≡ w.begins.items))
  pub lowest : ((place + 1 ≡ w.end) × IsLowered n w.lowest after.lowest) ⊎ ((place + 1 ≢ w.end) × (after.lowest ≡ w.lowest))

-- number n at the end led to this number, which stood so; whether it was new
abbrev pub IsGone : ℕ → ℕ → Walk → Walk → Place → Bool → Type 0
IsGone n to w after New found = (found ≡ true) × IsPushed to w after
IsGone n to w after (At place) found = (found ≡ false) × IsBack n place w after
IsGone n to w after Closed found = (found ≡ false) × (after ≡ w)

-- the number at the end of what is not done with, in the last loop
pub record IsAtEnd (n : ℕ) (w : Walk) : Type 0 where
  pub inside : begin_at w (length w.way.items - 1) < w.end
  pub number : number_at w (w.end - 1) ≡ n

-- no number is new again
pub record AreKept (w after : Walk) : Type 0 where
  pub kept : (n : ℕ) → is_new (place_of w n) ≡ false → is_new (place_of after n) ≡ false

-- a new number was put on the way, or the way is as before
abbrev pub IsLonger : Walk → Walk → Bool → Type 0
IsLonger w after true = (new_numbers after + 1 ≡ new_numbers w) × (length after.way.items ≡ length w.way.items + 1) × (after.end ≡ length after.way.items)
IsLonger w after false = (new_numbers after ≡ new_numbers w) × (after.way.items ≡ w.way.items) × (after.end ≡ w.end)

-- an entry of number n at the end was followed; whether it led to a new number
pub record IsAlong (c : Cat) (n : ℕ) (e : DirEnt) (w after : Walk) (found : Bool) : Type 0 where
  pub walk : IsWalk c after
  pub longer : IsLonger w after found
  pub inside : w.end - 1 < length after.way.items
  pub number : number_at after (w.end - 1) ≡ n
  pub met : is_step c n e ≡ true → IsMet (number_at after) (begin_at after) after.lowest (w.end - 1) (place_of after e.fid.num)
  pub looked : after.looked.items ≡ w.looked.items
  pub last : found ≡ false → IsAtEnd n after
  pub kept : AreKept w after

-- one entry more of this number counts as looked at
pub record IsOneMore (n : ℕ) (w after : Walk) : Type 0 where
  pub way : after.way.items ≡ w.way.items
  pub begins : after.begins.items ≡ w.begins.items
  pub places : after.places.items ≡ w.places.items
  pub looked : after.looked.items ≡ slice_set w.looked.items n (looked_at w n + 1)
  pub lowest : after.lowest ≡ w.lowest
  pub end : after.end ≡ w.end

-- one entry more of number n at the end was looked at; whether it led to a new number
pub record IsLooked (c : Cat) (n : ℕ) (w after : Walk) (found : Bool) : Type 0 where
  pub walk : IsWalk c after
  pub longer : IsLonger w after found
  pub looked : looked_at after n ≡ looked_at w n + 1
  pub last : found ≡ false → IsAtEnd n after
  pub kept : AreKept w after

-- the end is one place nearer to the start
pub record IsShortened (w after : Walk) : Type 0 where
  pub way : after.way.items ≡ w.way.items
  pub begins : after.begins.items ≡ w.begins.items
  pub places : after.places.items ≡ w.places.items
  pub looked : after.looked.items ≡ w.looked.items
  pub lowest : after.lowest ≡ w.lowest
  pub end : after.end + 1 ≡ w.end

-- what is left to do: new numbers, the way, and how much of it is not done with
abbrev pub left_to_do : Cat → Walk → ℕ
left_to_do c w = new_numbers w * (length c.files + 4) + (w.end + length w.way.items)

pub record IsFurther (c : Cat) (w after : Walk) : Type 0 where
  pub walk : IsWalk c after
  pub less : left_to_do c after < left_to_do c w
  pub kept : AreKept w after

-- these numbers are closed, and others stand as before
pub record AreClosed (numbers : List ℕ) (places after : List Place) : Type 0 where
  pub long : length after ≡ length places
  pub closed : (n : ℕ) → waits numbers n ≡ true → slice_index_or after n New ≡ Closed
  pub same : (n : ℕ) → waits numbers n ≡ false → slice_index_or after n New ≡ slice_index_or places n New
  pub few : count_by is_new after ≤ count_by is_new places

-- these numbers are taken for the lowest one where none that was found is lower
pub record AreLowered (numbers : List ℕ) (lowest after : Option ℕ) : Type 0 where
  pub there : (n : ℕ) → waits numbers n ≡ true → IsNoHigher after n
  pub kept : (n : ℕ) → IsNoHigher lowest n → IsNoHigher after n
  pub one : (after ≡ lowest) ⊎ ((n : ℕ) × (waits numbers n ≡ true) × (after ≡ Some n))

-- the last loop was taken off the way, which began at this place
pub record IsShorter (begin : ℕ) (w after : Walk) : Type 0 where
  pub way : after.way.items ≡ take begin w.way.items
  pub begins : after.begins.items ≡ take begin w.begins.items
  pub places : AreClosed (drop begin w.way.items) w.places.items after.places.items
  pub looked : after.looked.items ≡ w.looked.items
  pub end : after.end ≡ w.end
  pub lowest : ((begin + 1 < length w.way.items) × AreLowered (drop begin w.way.items) w.lowest after.lowest)
      ⊎ ((length w.way.items ≤ begin + 1) × (after.lowest ≡ w.lowest))

-- the lowest number on a loop, or none where no number is on one
abbrev pub IsLowestOnLoop : Cat → Option ℕ → Type 0
IsLowestOnLoop c None = (n : ℕ) → Path c n n → ⊥
IsLowestOnLoop c (Some m) = Path c m m × ((n : ℕ) → Path c n n → m ≤ n)
