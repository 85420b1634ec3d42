-- What each step of mending leaves, where it ends well. Each begins with blocks of a geometry that tell a catalogue.
use Rattle.std.specs.Prelude.{◌≡◌, ◌≤◌, ◌+◌, ◌++◌, ℕ, Bool, true, false, List, [], All, Some, None, length}
use Rattle.std.specs.List.{count_by}
use Rattle.base_words.specs.Fields.{Block}
use Rattle.plain_cat.specs.declared.cat.Cat.{Cat}
use Rattle.plain_cat.specs.declared.cat.File.{File}
use Rattle.plain_cat.specs.declared.cat.QuotaRow.{QuotaRow}
use Rattle.plain_rules.specs.Accounts.{charge}
use Rattle.plain_rules.specs.Lookups.{file_at}
use Rattle.plain_rules.specs.Mending.{places, stripped, lost, enter, enter_all, enter_some, with_lost, is_used, is_gone, without_leaks}
use Rattle.plain_mends.specs.Waiting.{Settled, LostIsWritten, AreFull}
use Rattle.vol_mends.specs.Going.{Change}
use Rattle.vol_parts.specs.declared.geometry.Geometry.{Geometry}
use Rattle.vol_spell.specs.Reading.{IsFileNumber}
use Rattle.vol_mends.specs.Told.{IsTold, IsSingle, KeepsSingles}
use Rattle.vol_mends.specs.Clean.{KeepsClean}
use Rattle.vol_mends.specs.Bits.{numbers_left}
use Rattle.vol_rebuild.specs.Leaving.{gone_numbers}

-- how many files there are
abbrev pub used_count : Cat → ℕ
used_count c = count_by is_used c.files

-- no directory has an entry in two of its blocks
abbrev pub AreSingles : Geometry → List Block → Type 0
AreSingles g bs = (n : ℕ) → IsFileNumber g n → IsSingle g bs n

-- the catalogue with so many clusters and these numbers leaked
abbrev pub leaking : Cat → ℕ → List Bool → Cat
leaking c k flags = record c { leaked = k; leaked_numbers = flags }

-- the blocks tell this catalogue, but for what is leaked
pub record TellsFiles (g : Geometry) (bs : List Block) (c : Cat) : Type 0 where
  pub leaked : ℕ
  pub flags : List Bool
  pub told : IsTold g bs (leaking c leaked flags)

-- so many entries are removed from c, and all that are left stay
pub record IsStripped (g : Geometry) (c d : Cat) (new : List Block) (k : ℕ) : Type 0 where
  pub told : IsTold g new d
  pub first : d ≡ stripped c
  pub counted : length (places d) + k ≡ length (places c)
  pub files : used_count d ≡ used_count c

-- file n is entered, or there is no room for it
abbrev pub EntersOne : Cat → Cat → ℕ → Bool → Type 0
EntersOne c d n true = enter c n ≡ Some d
EntersOne c d n false = (enter c n ≡ None) × (d ≡ c)

pub record IsEntered (g : Geometry) (c d : Cat) (old new : List Block) (n : ℕ) (entered : Bool) : Type 0 where
  pub told : IsTold g new d
  pub enters : EntersOne c d n entered
  pub singles : KeepsSingles g old new

-- if there is room for a lost file, entering it is the next change that mending makes
abbrev pub CanEnterOne : Cat → ℕ → Type 0
CanEnterOne c n = (y : Cat) → enter c n ≡ Some y → Change c y

-- so many lost files are entered, each that is not empty
pub record AreEnteredFull (g : Geometry) (c d : Cat) (old new : List Block) (k : ℕ) : Type 0 where
  pub told : IsTold g new d
  pub settled : Settled d
  pub written : LostIsWritten d
  pub entered : enter_all (lost c false) c ≡ Some d
  pub none : lost d false ≡ []
  pub others : lost d true ≡ lost c true
  pub counted : length (places d) ≡ length (places c) + k
  pub few : k ≤ 4096
  pub files : used_count d ≡ used_count c
  pub singles : KeepsSingles g old new

-- of the empty lost files these are left, and for those before them there is no room
pub record AreSkipped (c : Cat) (left : List ℕ) : Type 0 where
  pub skipped : List ℕ
  pub waits : lost c true ≡ skipped ++ left
  pub full : AreFull c skipped

-- so many lost files are entered, each empty one that there is room for
pub record AreEnteredEmpty (g : Geometry) (c d : Cat) (old new : List Block) (k : ℕ) : Type 0 where
  pub told : IsTold g new d
  pub settled : Settled d
  pub entered : enter_some (lost c true) c ≡ d
  pub none : lost d false ≡ []
  pub full : AreFull d (lost d true)
  pub counted : length (places d) ≡ length (places c) + k
  pub few : k ≤ 4096
  pub files : used_count d ≡ used_count c
  pub singles : KeepsSingles g old new

-- so many lost files are entered: all that are not empty, and each empty one that there is room for
pub record AreEntered (g : Geometry) (c d : Cat) (old new : List Block) (k : ℕ) : Type 0 where
  pub told : IsTold g new d
  pub settled : Settled d
  pub entered : with_lost c ≡ Some d
  pub none : lost d false ≡ []
  pub full : AreFull d (lost d true)
  pub counted : length (places d) ≡ length (places c) + k
  pub files : used_count d ≡ used_count c
  pub singles : KeepsSingles g old new

-- file n is gone, where no lost file can be entered
pub record IsGone (c : Cat) (n : ℕ) : Type 0 where
  pub settled : Settled c
  pub none : lost c false ≡ []
  pub full : AreFull c (lost c true)
  pub file : File
  pub at : file_at c n ≡ Some file
  pub gone : is_gone c n file ≡ true

-- the first slots of so many files are free, and none is left that is gone
pub record AreFreed (g : Geometry) (c d : Cat) (old new : List Block) (k : ℕ) : Type 0 where
  pub told : TellsFiles g new d
  pub settled : Settled d
  pub none : gone_numbers d ≡ []
  pub files : used_count d + k ≡ used_count c
  pub singles : KeepsSingles g old new

-- no number is leaked
pub record AreNumbersSet (g : Geometry) (old new : List Block) (c : Cat) : Type 0 where
  pub told : IsTold g new (numbers_left c)
  pub singles : KeepsSingles g old new
  pub clean : KeepsClean g old new

-- nothing is leaked
pub record IsTidy (g : Geometry) (c : Cat) (old new : List Block) : Type 0 where
  pub told : IsTold g new (without_leaks c)
  pub singles : KeepsSingles g old new
  pub clean : KeepsClean g old new

-- a catalogue has these files
pub record IsOfFiles (files c : Cat) : Type 0 where
  pub same : c.files ≡ files.files
  pub factor : c.factor ≡ files.factor

-- the usage of each owner is what its files cost
pub record AreSummed (g : Geometry) (c : Cat) (old new : List Block) : Type 0 where
  pub rows : List QuotaRow
  pub told : IsTold g new (record c { quota = rows })
  pub usage : All (λ (r : QuotaRow). r.usage ≡ charge c r.owner) rows
  pub singles : KeepsSingles g old new
  pub clean : KeepsClean g old new
