-- The answer of a command.
use Rattle.std.specs.Prelude.{◌≡◌, ℕ, true, List, Option, length}
use Rattle.base_words.specs.Fields.{Block}
use Rattle.plain_cat.specs.declared.command.Cmd.{Cmd}
use Rattle.plain_cat.specs.declared.reply.Reply.{Reply}
use Rattle.plain_cat.specs.declared.cat.Cat.{Cat}
use Rattle.plain_cat.specs.declared.cat.Open.{Open}
use Rattle.plain_rules.specs.Answers.{Answer}
use Rattle.base_words.specs.Lists.{StandsIn}
use Rattle.vol_spell.specs.Owners.{Owners, Things, Outs}
use Rattle.vol_parts.specs.declared.geometry.Geometry.{Geometry}
use Rattle.vol_spell.specs.Spelling.{Spells}
use Rattle.vol_under.specs.UnderWay.{UnderWay, idle, changed, AreSole}
use Rattle.vol_under.specs.Under.{Leaves, IsUnder}

-- What the first k writes of node n leave, and that the reply r to the command x goes with it, but for what the channels have
-- open.
pub record Replies (g : Geometry) (n : ℕ) (u : UnderWay) (x : Cmd) (r : Reply) (base : List Block) (own : Owners) (c : Cat) (stock : Things) (k : ℕ) : Type 0 where
  pub leaves : Leaves g n u base own c stock k
  pub opens : List (Option Open)
  pub answer : Answer c n x r (record leaves.cat { opens = opens })

-- The law of a reply: on all blocks of the plan's law, the reply goes with what all writes of the plan leave.
abbrev pub IsReply : Geometry → ℕ → UnderWay → Cmd → Reply → Type 0
IsReply g n u x r = (base : List Block) (own : Owners) (c : Cat) (stock : Things) (k : ℕ) → Spells g base own c → u.knows c ≡ true → StandsIn base u.seen → Outs n own u.took stock
    → k ≡ length u.plan → Replies g n u x r base own c stock k

-- a node whose writes are all done answers
abbrev pub AnswerKeeps : Type 0
AnswerKeeps = (g : Geometry) (c : Cat) (nodes : ℕ → UnderWay) (drive : List Block) (n : ℕ) (x : Cmd) (r : Reply) → AreSole nodes → IsUnder g c nodes drive → (nodes n).knows c ≡ true
    → (nodes n).done ≡ length (nodes n).plan → IsReply g n (nodes n) x r → (d : Cat) × Answer c n x r d × IsUnder g d (changed nodes n (idle (nodes n))) drive
