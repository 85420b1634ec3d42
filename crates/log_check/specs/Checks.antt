-- What is said of a report between two volumes.
use Rattle.std.specs.Prelude.{◌≡◌, ℕ, List, Option, None, map}
use Rattle.base_words.specs.Fields.{Block}
use Rattle.plain_cat.specs.declared.cat.Cat.{Cat}
use Rattle.plain_cat.specs.declared.cat.Open.{Open}
use Rattle.blk_drive.specs.declared.mirror.LoadFault.{LoadFault}
use Rattle.blk_drive.specs.declared.mirror.LoadFault.TheVariants as load
use Rattle.vol_parts.specs.Findings.{IsFirstFatal, Accepts, CatOf}
use Rattle.vol_analyze.specs.Judging.{IsFirstFound}
use Rattle.log_check.specs.Histories.{IsReport, IsUnchecked, IsIllegal}
use Rattle.log_check.specs.declared.status.CheckStatus.{CheckStatus}
use Rattle.log_check.specs.declared.status.CheckStatus.TheVariants as status

-- a catalogue once nothing is open any more
abbrev pub shut : Cat → Cat
shut c = record c { opens = map (λ (o : Option Open). None) c.opens }

-- ---- between two catalogues

-- a text is the report of a legal history of k entries from the one to the other, with its channels closed
pub record IsLegalBetween (c e : Cat) (text : List ℕ) (k : ℕ) : Type 0 where
  pub last : Cat
  pub report : IsReport k c text last
  pub same : shut last ≡ e

-- it is one, and leads elsewhere
pub record LeadsElsewhere (c e : Cat) (text : List ℕ) : Type 0 where
  pub entries : ℕ
  pub last : Cat
  pub report : IsReport entries c text last
  pub differs : shut last ≡ e → ⊥

-- why it is none
abbrev pub IsNotLegal : Cat → Cat → List ℕ → CheckStatus → Type 0
IsNotLegal c e text (status.Unchecked k) = IsUnchecked k c text
IsNotLegal c e text (status.Illegal k) = IsIllegal k c text
IsNotLegal c e text status.EndDiffers = LeadsElsewhere c e text
IsNotLegal c e text status.NoMemory = Unit {0}
IsNotLegal c e text s = ⊥

-- ---- volumes

-- why a volume before gave no catalogue
abbrev pub IsNotAccepted : List Block → CheckStatus → Type 0
IsNotAccepted bs (status.NotAccepted f) = IsFirstFound bs f
IsNotAccepted bs status.NoMemory = Unit {0}
IsNotAccepted bs s = ⊥

-- why a volume after gave none
abbrev pub IsNotMendable : List Block → CheckStatus → Type 0
IsNotMendable bs (status.NotMendable f) = IsFirstFatal bs f
IsNotMendable bs status.NoMemory = Unit {0}
IsNotMendable bs s = ⊥

-- the status of a load
abbrev pub load_status : LoadFault → CheckStatus
load_status load.ImageFault = status.ImageFault
load_status (load.BadSize n) = status.BadSize n
load_status load.NoMemory = status.NoMemory

-- ---- between two volumes

-- the blocks have a catalogue, with nothing fatal found, of which this is said
pub record LeadsTo (cs : List Block) (P : Cat → Type 0) : Type 0 where
  pub closing : Cat
  pub told : CatOf cs closing
  pub said : P closing

-- the volume before is accepted, and of its catalogue this is said
pub record LeadsFrom (bs : List Block) (P : Cat → Type 0) : Type 0 where
  pub opening : Cat
  pub accepted : Accepts bs
  pub told : CatOf bs opening
  pub said : P opening

-- a text is the report of a legal history of k entries from the one volume to the other
abbrev pub IsLegalOn : List Block → List Block → List ℕ → ℕ → Type 0
IsLegalOn bs cs text k = LeadsFrom bs (λ c. LeadsTo cs (λ e. IsLegalBetween c e text k))

-- it is one, and leads elsewhere
abbrev pub LeadsAstray : List Block → List Block → List ℕ → Type 0
LeadsAstray bs cs text = LeadsFrom bs (λ c. LeadsTo cs (λ e. LeadsElsewhere c e text))

-- why a report is no legal history from a catalogue to a volume
abbrev pub IsEndFrom : Cat → List Block → List ℕ → CheckStatus → Type 0
IsEndFrom c cs text (status.NotMendable f) = IsFirstFatal cs f
IsEndFrom c cs text (status.Unchecked k) = LeadsTo cs (λ e. IsUnchecked k c text)
IsEndFrom c cs text (status.Illegal k) = LeadsTo cs (λ e. IsIllegal k c text)
IsEndFrom c cs text status.EndDiffers = LeadsTo cs (λ e. LeadsElsewhere c e text)
IsEndFrom c cs text status.NoMemory = Unit {0}
IsEndFrom c cs text s = ⊥

-- and from the one volume to the other
abbrev pub IsEndOn : List Block → List Block → List ℕ → CheckStatus → Type 0
IsEndOn bs cs text (status.NotAccepted f) = IsFirstFound bs f
IsEndOn bs cs text (status.NotMendable f) = Accepts bs × IsFirstFatal cs f
IsEndOn bs cs text (status.Unchecked k) = LeadsFrom bs (λ c. LeadsTo cs (λ e. IsUnchecked k c text))
IsEndOn bs cs text (status.Illegal k) = LeadsFrom bs (λ c. LeadsTo cs (λ e. IsIllegal k c text))
IsEndOn bs cs text status.EndDiffers = LeadsAstray bs cs text
IsEndOn bs cs text status.NoMemory = Unit {0}
IsEndOn bs cs text s = ⊥
