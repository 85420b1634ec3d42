-- What of a damaged volume spells the catalogue that a repair begins with, once its slots are freed and the writes are made that are
-- known by then: those of directories, quota rows and bits.
use Rattle.std.specs.Prelude.{◌≡◌, ◌≢◌, ◌≤◌, ◌<◌, ◌&&◌, ◌||◌, not, ℕ, Bool, true, false, List, [], Option, Some, None, Ok, is_none}
use Rattle.base_words.specs.Fields.{Block}
use Rattle.fx_home.specs.declared.home.Home.{Home}
use Rattle.fx_home.specs.Homes.{IsWithinLimits}
use Rattle.fx_header.specs.declared.slot.Hdr.{Hdr}
use Rattle.fx_dir.specs.Directory.{directory}
use Rattle.vol_parts.specs.declared.finding.Finding.{Finding}
use Rattle.vol_parts.specs.Volumes.{Volume, volume, IsNumber, total, block_at, fields, body, bitmap_lbn, is_free_cluster, is_used_number, active_rows}
use Rattle.vol_parts.specs.Catalogues.{rows_sorted, catalogue}
use Rattle.vol_parts.specs.Fatal.{dir_fault, has_two_rows, IsFatalIn}
use Rattle.vol_spell.specs.Accepting.{IsBeside}
use Rattle.vol_init.specs.Layouts.{main_entries}
use Rattle.vol_sound.specs.Sound.{is_sound, is_kept}
use Rattle.vol_sound.specs.Freeing.{HasSystem, HasAllFreed}
use Rattle.vol_sound.specs.Begun.{lacks_entry, begun_rows, is_in_kept, begun}

abbrev pub is_marked_for : Option Hdr → Bool
is_marked_for None = false
is_marked_for (Some f) = f.dir && f.marked

-- a directory that is marked for delete
abbrev pub is_marked_directory : Volume → ℕ → Bool
is_marked_directory v n = is_marked_for (fields v n)

-- the blocks of a file are those that it had, or, where they change, a directory with no entries
abbrev pub IsEmptiedWhere : Bool → Volume → Volume → ℕ → Type 0
IsEmptiedWhere false v p n = body p n ≡ body v n
IsEmptiedWhere true v p n = directory (body p n) ≡ Ok []

-- the blocks of the master file directory are those that it had, or, where these change, its entries of the system files
abbrev pub IsPackedWhere : Bool → Volume → Volume → Type 0
IsPackedWhere false v p = body p 4 ≡ body v 4
IsPackedWhere true v p = directory (body p 4) ≡ Ok main_entries

-- All slots that are not kept are free. The master file directory has the entries of the system files, [SYSLOST] can be read, and a
-- directory that is marked for delete is empty; each other file that is kept has its blocks, but for files 1, 2 and 10. In these the
-- rows are those that the repair begins with, and the bits say that what files have is in use.
pub record IsBegun (home : Home) (old new : List Block) : Type 0 where
  pub freed : HasAllFreed home old new
  pub control : block_at (volume home new) (bitmap_lbn (volume home old)) ≡ block_at (volume home old) (bitmap_lbn (volume home old))
  pub sound : (n : ℕ) → IsNumber (volume home old) n → is_sound (volume home old) n ≡ true → IsEmptiedWhere (is_marked_directory (volume home old) n) (volume home old) (volume home new) n
  pub system : (n : ℕ) → 3 ≤ n → n ≤ 9 → n ≢ 4 → body (volume home new) n ≡ body (volume home old) n
  pub main : IsPackedWhere (lacks_entry (volume home old)) (volume home old) (volume home new)
  pub lost : IsEmptiedWhere (not (is_none (dir_fault (volume home old) 11))) (volume home old) (volume home new) 11
  pub rows : rows_sorted (active_rows (volume home new)) ≡ rows_sorted (begun_rows (volume home old))
  pub once : (uic : ℕ) → has_two_rows (active_rows (volume home new)) uic ≡ false
  pub clusters : (q : ℕ) → q < total (volume home old) → is_free_cluster (volume home new) q ≡ (is_free_cluster (volume home old) q && not (is_in_kept (volume home old) q))
  pub numbers : (n : ℕ) → IsNumber (volume home old) n → is_used_number (volume home new) n ≡ (is_used_number (volume home old) n || is_kept (volume home old) n)

-- Where nothing is beyond repair, such blocks have no fatal finding on which the spelling of a catalogue rests, and tell the catalogue that the repair begins with.
pub record IsKeptRight (v p : Volume) : Type 0 where
  pub findings : (f : Finding) → IsFatalIn p f → IsBeside f
  pub catalogue : catalogue p ≡ begun v

abbrev pub KeptIsRight : Type 0
KeptIsRight = (home : Home) (old new : List Block) → IsWithinLimits home → HasSystem (volume home old) → IsBegun home old new → IsKeptRight (volume home old) (volume home new)
