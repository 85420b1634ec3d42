-- How a command ends that is alone on the blocks of a volume, where each of its needs is met at once, but no search for space.
use Rattle.std.specs.Prelude.{◌≡◌, ◌+◌, ℕ, Bool, List, Option, Some, None, length}
use Rattle.base_words.specs.Fields.{Block}
use Rattle.plain_cat.specs.declared.command.Cmd.{Cmd}
use Rattle.plain_cat.specs.declared.cat.Cat.{Cat}
use Rattle.plain_rules.specs.Accounts.{Accounted}
use Rattle.vol_parts.specs.declared.finding.Finding.{Finding}
use Rattle.vol_parts.specs.Findings.{IsFatal, CatOf}
use Rattle.op_law.specs.declared.need.Need.TheVariants as need
use Rattle.op_law.specs.declared.need.Plan.{Plan}
use Rattle.op_law.specs.declared.seen.Seen.{Seen}
use Rattle.op_law.specs.Events.{space_of, HasNoSpace}
use Rattle.op_law.specs.Needs.{IsNext}
use Rattle.op_law.specs.Fits.{FitsOn, IsPlanOn}

-- no fatal finding holds, and the quotas of the catalogue that the blocks tell are in order
pub record IsInOrder (bs : List Block) : Type 0 where
  pub cat : Cat
  pub told : CatOf bs cat
  pub accounted : Accounted cat

-- What a command alone has seen fits it on these blocks; no channel has anything open, and no space was given or refused.
pub record IsSeenAlone (cmd : Cmd) (bs : List Block) (seen : Seen) : Type 0 where
  pub fits : FitsOn cmd seen bs
  pub channel : seen.channel ≡ None
  pub none : HasNoSpace (space_of seen)

-- what a command of a channel has seen fits it on these blocks, and no space was refused
pub record IsSeenOpen (cmd : Cmd) (bs : List Block) (seen : Seen) : Type 0 where
  pub fits : FitsOn cmd seen bs
  pub short : seen.short ≡ None

-- Why a command alone makes no plan: a fatal finding holds; the quotas of the catalogue that the blocks tell are not in order; or
-- it comes to a search for space.
pub data HasNoPlan (cmd : Cmd) (bs : List Block) : Type 0 where
  Fatal : (f : Finding) → IsFatal bs f → HasNoPlan cmd bs
  NotInOrder : (c : Cat) → CatOf bs c → (Accounted c → ⊥) → HasNoPlan cmd bs
  Searches : (seen : Seen) (clusters : ℕ) (number : Bool) → IsSeenAlone cmd bs seen → IsNext cmd seen (need.Space clusters number) → HasNoPlan cmd bs

-- what it has seen at last and its plan, or none for one of these causes
abbrev pub EndsAlone : Cmd → List Block → Option (Seen × Plan) → Type 0
EndsAlone cmd bs None = HasNoPlan cmd bs
EndsAlone cmd bs (Some ended) = IsInOrder bs × IsSeenAlone cmd bs ended.0 × IsPlanOn cmd bs ended.0 ended.1

-- ---- on the way

-- how many needs were met
abbrev pub needs_met : Seen → ℕ
needs_met seen = length seen.locks + length seen.blocks

-- one more need was met
pub record IsMet (cmd : Cmd) (bs : List Block) (old new : Seen) : Type 0 where
  pub alone : IsSeenAlone cmd bs new
  pub more : needs_met new ≡ needs_met old + 1

-- a command that begins
pub record Begins (cmd : Cmd) (bs : List Block) (seen : Seen) : Type 0 where
  pub order : IsInOrder bs
  pub alone : IsSeenAlone cmd bs seen
  pub first : needs_met seen ≡ 0

abbrev pub BeginsAlone : Cmd → List Block → Option Seen → Type 0
BeginsAlone cmd bs None = HasNoPlan cmd bs
BeginsAlone cmd bs (Some seen) = Begins cmd bs seen
