-- The drive of a world with commands under way: the committed blocks, which spell the catalogue of the history, and over them
-- the writes done of each command under way.
use Rattle.std.specs.Prelude.{◌≡◌, ◌≤◌, ℕ, true, List, length, slice_get}
use Rattle.base_words.specs.Fields.{Block}
use Rattle.plain_cat.specs.declared.cat.Cat.{Cat}
use Rattle.base_words.specs.Lists.{written, Touches, StandsIn}
use Rattle.vol_spell.specs.Owners.{Owners, OwnersMove, Things, Outs}
use Rattle.vol_parts.specs.declared.geometry.Geometry.{Geometry}
use Rattle.vol_spell.specs.Spelling.{Spells}
use Rattle.vol_under.specs.Guards.{guard_of, MayWrite, MayLook, IsCommandMove}
use Rattle.vol_under.specs.UnderWay.{bare, UnderWay, writes_to, stage_at, outs_at, StandsAt}

-- Where a node has written, the drive has what the node's writes make of the committed blocks; elsewhere it has those.
pub record IsOver (done : ℕ → List (ℕ × Block)) (base drive : List Block) : Type 0 where
  pub count : length drive ≡ length base
  pub there : (n l : ℕ) → Touches (done n) l → slice_get drive l ≡ slice_get (written (done n) base) l
  pub elsewhere : (l : ℕ) → ((n : ℕ) → Touches (done n) l → ⊥) → slice_get drive l ≡ slice_get base l

-- What the first k writes of node n leave of committed blocks that spell c: blocks that spell the catalogue of the stage
-- after them, with owners that the command may move, and outside what the plan says, besides the stock.
pub record Leaves (g : Geometry) (n : ℕ) (u : UnderWay) (base : List Block) (own : Owners) (c : Cat) (stock : Things) (k : ℕ) : Type 0 where
  pub new : Owners
  pub cat : Cat
  pub stage : StandsAt c n u.cmd (stage_at k u) cat
  pub spelt : Spells g (written (writes_to k u) base) new cat
  pub moves : OwnersMove (IsCommandMove n u.write) own new
  pub outs : Outs n new (outs_at k u) stock

-- The law of a plan: on all blocks that spell a catalogue of which the node's knowledge holds, in which stands what the node
-- has seen, and whatever its stock is, the writes leave the stages of the command, each number of them its own.
abbrev pub IsLawful : Geometry → ℕ → UnderWay → Type 0
IsLawful g n u = (base : List Block) (own : Owners) (c : Cat) (stock : Things) (k : ℕ) → Spells g base own c → u.knows c ≡ true → StandsIn base u.seen → Outs n own u.took stock
    → k ≤ length u.plan → Leaves g n u base own c stock k

-- the drive of a world whose history has led to c, with these nodes
pub record IsUnder (g : Geometry) (c : Cat) (nodes : ℕ → UnderWay) (drive : List Block) : Type 0 where
  -- the committed blocks spell c, with these owners
  pub base : List Block
  pub own : Owners
  pub spelt : Spells g base own c
  -- the writes done lie over them
  pub over : IsOver (λ n. writes_to (nodes n).done (nodes n)) base drive
  pub within : (n : ℕ) → (nodes n).done ≤ length (nodes n).plan
  -- what each node has seen is committed
  pub stands : (n : ℕ) → StandsIn base (nodes n).seen
  -- what is outside at each node is what its command took and its stock
  pub outs : (n : ℕ) → Outs n own (nodes n).took (nodes n).stock
  -- each plan is lawful
  pub lawful : (n : ℕ) → IsLawful g n (nodes n)
  -- each node holds the locks of what it writes and of what it has seen
  pub plan_guarded : (n l : ℕ) → Touches (bare (nodes n).plan) l → MayWrite n (nodes n).write (guard_of g own l)
  pub seen_guarded : (n l : ℕ) → Touches (nodes n).seen l → MayLook (nodes n).read (guard_of g own l)
