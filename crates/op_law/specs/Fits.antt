-- What 'seen fits the command' means.
use Rattle.std.specs.Prelude.{◌≡◌, ◌-◌, ℕ, true, List, [], ◌∷◌, Option, Some, None}
use Rattle.base_words.specs.Fields.{Block}
use Rattle.plain_cat.specs.declared.command.Cmd.{Cmd}
use Rattle.plain_cat.specs.declared.cat.Cat.{Cat}
use Rattle.base_words.specs.Lists.{StandsIn}
use Rattle.vol_spell.specs.Owners.{Owners, Things, Outs}
use Rattle.vol_spell.specs.Spelling.{Spells}
use Rattle.op_law.specs.declared.need.Need.TheVariants as need
use Rattle.op_law.specs.declared.need.Plan.{Plan}
use Rattle.op_law.specs.declared.seen.Seen.{Seen}
use Rattle.op_law.specs.Events.{space_of, HasNoSpace, Follows}
use Rattle.op_law.specs.Knows.{knows}
use Rattle.op_law.specs.Needs.{events_of, IsNext}

-- The locks and blocks that a command has seen are the first of those that it needs, in order.
abbrev pub HasSeen : Cmd → Seen → Type 0
HasSeen cmd seen = Follows (events_of seen.geometry seen.channel cmd) seen.locks seen.blocks (space_of seen) (HasNoSpace (space_of seen))

-- these clusters and this number, as things that are outside files
abbrev pub things : List ℕ → Option ℕ → Things
things clusters None = record { clusters = clusters; numbers = [] }
things clusters (Some n) = record { clusters = clusters; numbers = (n - 1) ∷ [] }

-- Blocks that spell a catalogue have what the command of a node has seen; what it was given is outside at the node; and what it
-- takes for granted of the catalogue is so.
pub record IsSeenOn (node : ℕ) (cmd : Cmd) (seen : Seen) (bs : List Block) (own : Owners) (c : Cat) : Type 0 where
  pub spelt : Spells seen.geometry bs own c
  pub stands : StandsIn bs seen.blocks
  pub stock : Things
  pub outs : Outs node own (things seen.clusters seen.number) stock
  pub known : knows node cmd seen c ≡ true

-- What was seen fits the command, at some node and on some volume.
pub record FitsSeen (cmd : Cmd) (seen : Seen) : Type 0 where
  pub order : HasSeen cmd seen
  pub node : ℕ
  pub blocks : List Block
  pub own : Owners
  pub cat : Cat
  pub on : IsSeenOn node cmd seen blocks own cat

-- What was seen on these blocks fits the command, at some node.
pub record FitsOn (cmd : Cmd) (seen : Seen) (bs : List Block) : Type 0 where
  pub order : HasSeen cmd seen
  pub node : ℕ
  pub own : Owners
  pub cat : Cat
  pub on : IsSeenOn node cmd seen bs own cat

-- A command has seen this on these blocks, and its plan is this.
pub record IsPlanOn (cmd : Cmd) (bs : List Block) (seen : Seen) (p : Plan) : Type 0 where
  pub fits : FitsOn cmd seen bs
  pub ready : IsNext cmd seen (need.Ready p)
