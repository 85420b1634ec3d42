-- What becomes of the directories that a repair remakes, one number after another.
use Rattle.std.specs.Prelude.{◌≡◌, ◌≢◌, ◌⊎◌, ◌≤◌, ◌<◌, ◌+◌, not, ℕ, Bool, true, false, List, [], ◌∷◌, Option, Some, None, Ok, length, is_none}
use Rattle.std.specs.List.{range_with_len, list_any, list_all}
use Rattle.base_words.specs.Fields.{Block}
use Rattle.fx_home.specs.declared.home.Home.{Home}
use Rattle.fx_dir.specs.declared.RawEnt.{RawEnt}
use Rattle.fx_dir.specs.Directory.{directory}
use Rattle.plain_cat.specs.declared.entries.DirEnt.{DirEnt}
use Rattle.plain_rules.specs.SystemFiles.{is_system_entry}
use Rattle.vol_parts.specs.Volumes.{Volume, volume, IsNumber, factor, body}
use Rattle.vol_parts.specs.Catalogues.{plain_entries}
use Rattle.vol_parts.specs.Fatal.{dir_fault}
use Rattle.vol_init.specs.Layouts.{main_entries}
use Rattle.vol_sound.specs.Sound.{is_sound}
use Rattle.vol_sound.specs.Begun.{lacks_entry}
use Rattle.vol_sound.specs.Kept.{is_marked_directory}
use Rattle.vol_repair.specs.Touched.{IsGround, IsDirPlace, IsMadeIn}

-- blocks that are laid down one behind another, from an LBN on, as writes
abbrev pub laid : ℕ → List Block → List (ℕ × Block)
laid l [] = []
laid l (b ∷ bs) = (l, b) ∷ laid (l + 1) bs

-- ---- what is wanted of one directory

-- one of these is the entry of system file n
abbrev pub names_system : List DirEnt → ℕ → Bool
names_system es n = list_any (is_system_entry n) es

-- these lack the entry of a system file
abbrev pub lacks_some : List DirEnt → Bool
lacks_some es = not (list_all (names_system es) (range_with_len 1 11))

-- Where directory n is to have these entries, it gets blocks with them, as many as it has. Where it gets none, it has these entries.
abbrev pub Becomes : Volume → ℕ → Bool → List RawEnt → Option (List Block) → Type 0
Becomes p n changes es None = changes ≡ true → directory (body p n) ≡ Ok es
Becomes p n changes es (Some bs) = (changes ≡ true) × (length bs ≡ factor p) × (directory bs ≡ Ok es)

-- the blocks that the file of a number is to get, by what the blocks of the volume say, and by whether it was sound at first
pub record IsWanted (p : Volume) (sound : Bool) (n : ℕ) (o : Option (List Block)) : Type 0 where
  pub main : n ≡ 4 → Becomes p n (lacks_some (plain_entries (directory (body p n)))) main_entries o
  pub lost : n ≡ 11 → Becomes p n (not (is_none (dir_fault p n))) [] o
  pub marked : n ≢ 4 → n ≢ 11 → sound ≡ true → Becomes p n (is_marked_directory p n) [] o
  pub other : n ≢ 4 → n ≢ 11 → sound ≡ false → o ≡ None

-- ---- number after number

-- a sound file, or a system file but the index file: no block of it is a header slot
abbrev pub IsHeld : Volume → ℕ → Type 0
IsHeld v n = ((1 < n) × (n ≤ 11)) ⊎ (is_sound v n ≡ true)

-- the blocks are the old ones, or, where they change, a directory with these entries
abbrev pub GotTo : Bool → List RawEnt → List Block → List Block → Type 0
GotTo false es old new = new ≡ old
GotTo true es old new = directory new ≡ Ok es

-- the file of this number has the blocks that it is to have
pub record IsRight (v : Volume) (n : ℕ) (bs : List Block) : Type 0 where
  pub main : n ≡ 4 → GotTo (lacks_entry v) main_entries (body v n) bs
  pub lost : n ≡ 11 → GotTo (not (is_none (dir_fault v n))) [] (body v n) bs
  pub marked : is_sound v n ≡ true → GotTo (is_marked_directory v n) [] (body v n) bs

-- the file of this number is the next one: it has its first blocks, and the flag says whether it was sound
pub record IsNext (home : Home) (first : List Block) (sound : Bool) (n : ℕ) (now : List Block) : Type 0 where
  pub ground : IsGround home first now
  pub number : IsNumber (volume home first) n
  pub flag : sound ≡ is_sound (volume home first) n
  pub still : IsHeld (volume home first) n → body (volume home now) n ≡ body (volume home first) n

-- then it has the blocks that it is to have, and each other file has its own
pub record IsRemade (home : Home) (first : List Block) (n : ℕ) (old new : List Block) : Type 0 where
  pub ground : IsGround home first new
  pub right : IsHeld (volume home first) n → IsRight (volume home first) n (body (volume home new) n)
  pub rest : (k : ℕ) → IsNumber (volume home first) k → IsHeld (volume home first) k → n ≢ k → body (volume home new) k ≡ body (volume home old) k
  pub others : IsMadeIn (IsDirPlace (volume home first)) old new

-- all files with a number below n have the blocks that they are to have, and the others their first ones
pub record IsSoFar (home : Home) (first old : List Block) (n : ℕ) (now : List Block) : Type 0 where
  pub ground : IsGround home first now
  pub right : (k : ℕ) → IsNumber (volume home first) k → k < n → IsHeld (volume home first) k → IsRight (volume home first) k (body (volume home now) k)
  pub still : (k : ℕ) → IsNumber (volume home first) k → n ≤ k → IsHeld (volume home first) k → body (volume home now) k ≡ body (volume home first) k
  pub others : IsMadeIn (IsDirPlace (volume home first)) old now
