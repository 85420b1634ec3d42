-- What the channels have open, and what holds of it in each catalogue.
use Rattle.std.specs.Prelude.{◌≡◌, ◌≤◌, ◌<◌, ◌==◌, ◌&&◌, nat_lt, ℕ, Bool, true, false, Option, Some, None, length, slice_get, if◌then◌else◌}
use Rattle.plain_cat.specs.Modes.{compatible_modes, rank}
use Rattle.plain_cat.specs.InForm.{is_open_mode}
use Rattle.plain_cat.specs.declared.ids.Fid.{Fid}
use Rattle.plain_cat.specs.declared.mode.Mode.{Mode}
use Rattle.plain_cat.specs.declared.cat.Cat.{Cat}
use Rattle.plain_cat.specs.declared.cat.File.{File}
use Rattle.plain_cat.specs.declared.cat.Open.{Open}
use Rattle.plain_rules.specs.Lookups.{file_at, in_use, channel_at}
use Rattle.plain_rules.specs.Opens.{is_plain_file, goes_with}

-- ---- one channel

-- a channel of 1 to 8 of a node from 1 to 8
pub record IsChannel (node chan : ℕ) : Type 0 where
  pub node_from : 1 ≤ node
  pub node_to : node ≤ 8
  pub from : 1 ≤ chan
  pub to : chan ≤ 8

-- an open is of this file in this mode, which goes with all other opens of it; and the file is in use, no directory and no system
-- file
abbrev pub is_open_as : Cat → ℕ → ℕ → Fid → Mode → Option Open → Bool
is_open_as c node chan file mode None = false
is_open_as c node chan file mode (Some o) =
    (o.file == file.num) && ((rank o.mode == rank mode) && (goes_with c node chan o.file o.mode && (nat_lt 11 file.num && is_plain_file (in_use c file))))

-- the channel has this file open so
abbrev pub has_open : Cat → ℕ → ℕ → Fid → Mode → Bool
has_open c node chan file mode = is_open_as c node chan file mode (channel_at c node chan)

-- ---- all channels

-- an open is of a file in use above the system files that is no directory, and in CR or more
pub record NamesFile (c : Cat) (o : Open) : Type 0 where
  pub above : 11 < o.file
  pub file : File
  pub used : file_at c o.file ≡ Some file
  pub plain : file.dir ≡ false
  pub held : is_open_mode o.mode ≡ true

-- Eight nodes have eight channels each. Each open names a file, and two opens of one file go together.
pub record OpensNameFiles (c : Cat) : Type 0 where
  pub places : length c.opens ≡ 64
  pub files : (i : ℕ) (o : Open) → slice_get c.opens i ≡ Some (Some o) → NamesFile c o
  pub together : (i j : ℕ) (o p : Open) → (i ≡ j → ⊥) → slice_get c.opens i ≡ Some (Some o) → slice_get c.opens j ≡ Some (Some p)
      → o.file ≡ p.file → compatible_modes o.mode p.mode ≡ true
