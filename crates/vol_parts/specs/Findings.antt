-- The findings of a volume's blocks, whether they are accepted, and the catalogue that they tell.
use Rattle.std.specs.Prelude.{◌≡◌, ◌⊎◌, ◌==◌, ◌&&◌, ◌||◌, nat_lt, nat_le, ℕ, Bool, true, List, [], ◌∷◌, Result, Ok, Err, slice_index_or}
use Rattle.base_words.specs.Fields.{Block}
use Rattle.fx_home.specs.declared.home.Home.{Home}
use Rattle.fx_home.specs.declared.home.HomeFault.{HomeFault}
use Rattle.fx_home.specs.Homes.{home_read}
use Rattle.plain_cat.specs.declared.cat.Cat.{Cat}
use Rattle.vol_parts.specs.declared.finding.Finding.{Finding}
use Rattle.vol_parts.specs.declared.finding.Finding.TheVariants as finding
use Rattle.vol_parts.specs.Volumes.{volume}
use Rattle.vol_parts.specs.Catalogues.{catalogue}
use Rattle.vol_parts.specs.Fatal.{IsFatalIn}
use Rattle.vol_parts.specs.Warnings.{warnings}

-- the home block is LBN 1
abbrev pub home_at : List Block → Block
home_at bs = slice_index_or bs 1 []

abbrev pub IsFatalBy : List Block → Result Home HomeFault → Finding → Type 0
IsFatalBy bs (Err fault) f = f ≡ finding.Home fault
IsFatalBy bs (Ok home) f = IsFatalIn (volume home bs) f

-- a fatal finding holds: that of the home block, or, where that is read, one of the volume
abbrev pub IsFatal : List Block → Finding → Type 0
IsFatal bs f = IsFatalBy bs (home_read (home_at bs)) f

-- in which order the kinds of fatal findings are looked for; the two of a header are one kind, and so are the two of a chain and the
-- four of a directory
abbrev pub rank : Finding → ℕ
rank (finding.Home fault) = 0
rank (finding.Header n fault) = 1
rank (finding.WrongNumber n) = 1
rank (finding.SystemFile n) = 2
rank (finding.Scb fault) = 3
rank (finding.ChainBroken n) = 4
rank (finding.ChainSplit n) = 4
rank (finding.Runs n) = 5
rank (finding.Clusters n) = 6
rank (finding.SharedCluster q) = 7
rank (finding.DirSize n) = 8
rank (finding.DirRecord n) = 8
rank (finding.DirOrder n) = 8
rank (finding.DirClash n) = 8
rank (finding.QuotaRow owner) = 9
rank (finding.NoQuotaRow n) = 10
rank (finding.FreeCluster q) = 11
rank (finding.FreeNumber n) = 12
rank (finding.SystemEntry n) = 13
rank (finding.MarkedDir n) = 14
rank (finding.DirLoop n) = 15
rank (finding.NoRoom n) = 16
rank f = 17

-- of one rank the lowest number, cluster or owner comes first
abbrev pub subject : Finding → ℕ
subject (finding.Home fault) = 0
subject (finding.Header n fault) = n
subject (finding.WrongNumber n) = n
subject (finding.SystemFile n) = n
subject (finding.Scb fault) = 0
subject (finding.ChainBroken n) = n
subject (finding.ChainSplit n) = n
subject (finding.Runs n) = n
subject (finding.Clusters n) = n
subject (finding.SharedCluster q) = q
subject (finding.DirSize n) = n
subject (finding.DirRecord n) = n
subject (finding.DirOrder n) = n
subject (finding.DirClash n) = n
subject (finding.QuotaRow owner) = owner.0
subject (finding.NoQuotaRow n) = n
subject (finding.FreeCluster q) = q
subject (finding.FreeNumber n) = n
subject (finding.SystemEntry n) = n
subject (finding.MarkedDir n) = n
subject (finding.DirLoop n) = n
subject (finding.NoRoom n) = n
subject f = 0

-- a finding comes no later than another
unfoldable pub is_no_later : Finding → Finding → Bool
is_no_later f g = nat_lt (rank f) (rank g) || ((rank f == rank g) && nat_le (subject f) (subject g))

-- the first fatal finding
pub record IsFirstFatal (bs : List Block) (f : Finding) : Type 0 where
  pub fatal : IsFatal bs f
  pub first : (g : Finding) → IsFatal bs g → is_no_later f g ≡ true

-- no fatal finding holds: the volume can be read, and mended
abbrev pub Weak : List Block → Type 0
Weak bs = (f : Finding) → IsFatal bs f → ⊥

-- no fatal finding holds, but that [SYSLOST] may lack room for a lost file
abbrev pub IsReadable : List Block → Type 0
IsReadable bs = (f : Finding) → IsFatal bs f → (n : ℕ) × (f ≡ finding.NoRoom n)

abbrev pub AreWarningsBy : List Block → Result Home HomeFault → List Finding → Type 0
AreWarningsBy bs (Err fault) fs = ⊥
AreWarningsBy bs (Ok home) fs = fs ≡ warnings (volume home bs)

-- What is found: where a fatal finding holds, the first one and nothing more; else all the others.
abbrev pub AreFindings : List Block → List Finding → Type 0
AreFindings bs fs =
    ((f : Finding) × IsFirstFatal bs f × (fs ≡ f ∷ [])) ⊎ (Weak bs × AreWarningsBy bs (home_read (home_at bs)) fs)

-- a volume is accepted: nothing is found
abbrev pub Accepts : List Block → Type 0
Accepts bs = AreFindings bs []

abbrev pub IsCatalogueBy : List Block → Result Home HomeFault → Cat → Type 0
IsCatalogueBy bs (Err fault) c = ⊥
IsCatalogueBy bs (Ok home) c = c ≡ catalogue (volume home bs)

-- the catalogue that the blocks tell, where no fatal finding holds
pub record CatOf (bs : List Block) (c : Cat) : Type 0 where
  pub weak : Weak bs
  pub told : IsCatalogueBy bs (home_read (home_at bs)) c
