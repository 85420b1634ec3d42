-- A chain of writes of one command: where it stands between its links.
use Rattle.std.specs.Prelude.{◌≡◌, ℕ, List, Option, map}
use Rattle.base_words.specs.Fields.{Block}
use Rattle.lock_db.specs.declared.name.LockName.{LockName}
use Rattle.plain_cat.specs.declared.command.Cmd.{Cmd}
use Rattle.plain_cat.specs.declared.history.Stage.{Stage}
use Rattle.plain_cat.specs.declared.cat.Cat.{Cat}
use Rattle.base_words.specs.Lists.{Touches, written}
use Rattle.vol_spell.specs.Owners.{Owners, Things, Outs}
use Rattle.vol_parts.specs.declared.geometry.Geometry.{Geometry}
use Rattle.vol_spell.specs.Reading.{IsFileNumber}
use Rattle.vol_spell.specs.Spelling.{Spells}
use Rattle.vol_spell.specs.Views.{IsSameFile}
use Rattle.vol_under.specs.UnderWay.{bare, StandsAt}
use Rattle.vol_under.specs.Chains.{End, Steps}
use Rattle.op_law.specs.declared.need.PlanWrite.{PlanWrite}
use Rattle.op_law.specs.Fits.{things}
use Rattle.op_law.specs.Laws.{planned}
use Rattle.op_law.specs.Writing.{Held}

-- a command of a node on a catalogue, with the locks that the node holds in PW, and what it has outside besides
pub record Chain : Type 0 where
  pub geometry : Geometry
  pub node : ℕ
  pub cmd : Option Cmd
  pub locks : List LockName
  pub cat : Cat
  pub stock : Things

-- these writes are steps of the chain, to this end
abbrev pub StepsOf : End → Chain → List PlanWrite → List Block → Owners → Type 0
StepsOf end k ws bs own = Steps end k.geometry k.node k.cmd k.locks k.cat k.stock (map planned ws) bs own

-- the stage s of the chain has the catalogue x
abbrev pub StageOf : Chain → Stage → Cat → Type 0
StageOf k s x = StandsAt k.cat k.node k.cmd s x

-- the blocks after these writes
abbrev pub after_writes : List PlanWrite → List Block → List Block
after_writes ws bs = written (bare (map planned ws)) bs

-- these writes touch the block of an LBN
abbrev pub TouchedBy : List PlanWrite → ℕ → Type 0
TouchedBy ws l = Touches (bare (map planned ws)) l

-- between two links: the blocks spell x, and the command has this outside
pub record StandsOn (k : Chain) (out : Held) (x : Cat) (bs : List Block) (own : Owners) : Type 0 where
  pub spelt : Spells k.geometry bs own x
  pub outs : Outs k.node own (things out.clusters out.number) k.stock

-- each file has the same header and the same blocks in both
abbrev pub FilesStay : Geometry → List Block → List Block → Type 0
FilesStay g bs bs' = (i : ℕ) → IsFileNumber g i → IsSameFile g bs bs' i

-- each file but that of number n
abbrev pub OthersStay : Geometry → ℕ → List Block → List Block → Type 0
OthersStay g n bs bs' = (i : ℕ) → IsFileNumber g i → (i ≡ n → ⊥) → IsSameFile g bs bs' i
