-- The lost files for which mending has to find room in [SYSLOST].
use Rattle.std.specs.Prelude.{◌≡◌, ℕ, Bool, false, List, Option, Some, None, filter, option_map}
use Rattle.plain_cat.specs.declared.entries.DirEnt.{DirEnt}
use Rattle.plain_cat.specs.declared.cat.Cat.{Cat}
use Rattle.plain_cat.specs.declared.cat.File.{File}
use Rattle.plain_cat.specs.declared.cat.Slot.{Slot}
use Rattle.plain_rules.specs.Lookups.{file_at}
use Rattle.plain_rules.specs.Mending.{stays, less_entries, without_opens, is_lost_slot, enter_all, stripped}
use Rattle.vol_parts.specs.Fatal.{HasNoRoom}

-- of these entries of the directory n, those that stay
abbrev pub staying : Cat → ℕ → List DirEnt → List DirEnt
staying c n es = filter (λ e. stays c (record { dir = n; entry = e })) es

-- a slot's file is lost and not empty, once the entries that go are gone
unfoldable pub is_waiting : Cat → ℕ → Slot → Bool
is_waiting c n s = is_lost_slot (stripped c) false n (less_entries (without_opens c) n s)

-- once the entries that go are gone, these lost files are entered, and then [SYSLOST] has these entries; no file's sequence
-- is another one
pub record AreEntered (c : Cat) (ns : List ℕ) (es : List DirEnt) : Type 0 where
  pub after : Cat
  pub dir : File
  pub entered : enter_all ns (stripped c) ≡ Some after
  pub there : file_at after 11 ≡ Some dir
  pub entries : dir.entries ≡ es
  pub factor : after.factor ≡ c.factor
  pub same : (n : ℕ) → option_map (λ f. f.seq) (file_at after n) ≡ option_map (λ f. f.seq) (file_at c n)

-- the lost file for which there is no room, or none where each has room
abbrev pub IsRoomless : Cat → Option ℕ → Type 0
IsRoomless c None = (n : ℕ) → HasNoRoom c n → ⊥
IsRoomless c (Some n) = HasNoRoom c n
