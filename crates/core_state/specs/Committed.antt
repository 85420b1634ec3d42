-- The drive under way over committed blocks that are named, and with owners that are named: so that it is known of an event which of them
-- it leaves.
use Rattle.std.specs.Prelude.{◌≡◌, ◌≤◌, ◌+◌, ℕ, Bool, true, List, [], ◌∷◌, Option, Some, length, take, slice_get, slice_set}
use Rattle.base_words.specs.Fields.{Block}
use Rattle.lock_db.specs.declared.name.LockName.{LockName}
use Rattle.lock_db.specs.declared.name.LockName.TheVariants.{V}
use Rattle.plain_cat.specs.declared.command.Cmd.{Cmd}
use Rattle.plain_cat.specs.declared.reply.Reply.{Reply}
use Rattle.plain_cat.specs.declared.cat.Cat.{Cat}
use Rattle.plain_cat.specs.declared.cat.Open.{Open}
use Rattle.plain_rules.specs.Answers.{Answer}
use Rattle.base_words.specs.Lists.{Has, Touches, StandsIn, written}
use Rattle.vol_spell.specs.Owners.{Owners, OwnersMove, IsSpaceMove, Things, Outs}
use Rattle.vol_parts.specs.declared.geometry.Geometry.{Geometry}
use Rattle.vol_spell.specs.Spelling.{Spells}
use Rattle.vol_under.specs.Guards.{guard_of, MayWrite, MayLook, IsCommandMove}
use Rattle.vol_under.specs.UnderWay.{PlannedWrite, bare, UnderWay, writes_to, idle, changed, AreSole}
use Rattle.vol_under.specs.Under.{IsOver, Leaves, IsLawful, IsUnder}
use Rattle.vol_under.specs.Keeping.{Refills, IsBitmap}
use Rattle.vol_under.specs.Answering.{IsReply}
use Rattle.vol_under.specs.Planned.{IsPlanGuarded}

-- the same as the drive of a world (`IsUnder`), over these committed blocks with these owners
pub record IsUnderOn (g : Geometry) (c : Cat) (base : List Block) (own : Owners) (nodes : ℕ → UnderWay) (drive : List Block) : Type 0 where
  pub spelt : Spells g base own c
  pub over : IsOver (λ n. writes_to (nodes n).done (nodes n)) base drive
  pub within : (n : ℕ) → (nodes n).done ≤ length (nodes n).plan
  pub stands : (n : ℕ) → StandsIn base (nodes n).seen
  pub outs : (n : ℕ) → Outs n own (nodes n).took (nodes n).stock
  pub lawful : (n : ℕ) → IsLawful g n (nodes n)
  pub plan_guarded : (n l : ℕ) → Touches (bare (nodes n).plan) l → MayWrite n (nodes n).write (guard_of g own l)
  pub seen_guarded : (n l : ℕ) → Touches (nodes n).seen l → MayLook (nodes n).read (guard_of g own l)

abbrev pub on_its_own : (g : Geometry) (c : Cat) (nodes : ℕ → UnderWay) (drive : List Block) (u : IsUnder g c nodes drive) → IsUnderOn g c u.base u.own nodes drive
on_its_own g c nodes drive u = record { spelt = u.spelt; over = u.over; within = u.within; stands = u.stands; outs = u.outs; lawful = u.lawful; plan_guarded = u.plan_guarded; seen_guarded = u.seen_guarded }

abbrev pub of_it : (g : Geometry) (c : Cat) (base : List Block) (own : Owners) (nodes : ℕ → UnderWay) (drive : List Block) → IsUnderOn g c base own nodes drive → IsUnder g c nodes drive
of_it g c base own nodes drive u = record { base = base; own = own; spelt = u.spelt; over = u.over; within = u.within; stands = u.stands; outs = u.outs; lawful = u.lawful; plan_guarded = u.plan_guarded; seen_guarded = u.seen_guarded }

-- ---- events that leave the committed blocks and their owners

-- nodes that are alike one by one
abbrev pub AlikeOn : Type 0
AlikeOn = (g : Geometry) (c : Cat) (base : List Block) (own : Owners) (nodes others : ℕ → UnderWay) (drive : List Block) → ((n : ℕ) → nodes n ≡ others n) → IsUnderOn g c base own nodes drive → IsUnderOn g c base own others drive

-- the next write of a node's plan
abbrev pub WriteOn : Type 0
WriteOn = (g : Geometry) (c : Cat) (base : List Block) (own : Owners) (nodes : ℕ → UnderWay) (drive : List Block) (n : ℕ) (w : PlannedWrite) → AreSole nodes → IsUnderOn g c base own nodes drive → slice_get (nodes n).plan (nodes n).done ≡ Some w
    → IsUnderOn g c base own (changed nodes n (record (nodes n) { done = (nodes n).done + 1 })) (slice_set drive w.lbn w.block)

-- a node looks at a block whose lock it holds, and which it has not written by its plan
abbrev pub LookOn : Type 0
LookOn = (g : Geometry) (c : Cat) (base : List Block) (own : Owners) (nodes : ℕ → UnderWay) (drive : List Block) (n l : ℕ) (b : Block) → AreSole nodes → IsUnderOn g c base own nodes drive
    → (Touches (writes_to (nodes n).done (nodes n)) l → ⊥) → slice_get drive l ≡ Some b → MayLook (nodes n).read (guard_of g own l)
    → IsUnderOn g c base own (changed nodes n (record (nodes n) { seen = (l, b) ∷ (nodes n).seen })) drive

-- a node decides on writes, and takes from its stock what the command needs
abbrev pub PlanOn : Type 0
PlanOn = (g : Geometry) (c : Cat) (base : List Block) (own : Owners) (nodes : ℕ → UnderWay) (drive : List Block) (n : ℕ) (knows : Cat → Bool) (plan : List PlannedWrite) (took stock : Things) → IsUnderOn g c base own nodes drive
    → take (nodes n).done plan ≡ take (nodes n).done (nodes n).plan → (nodes n).done ≤ length plan
    → IsLawful g n (record (nodes n) { knows = knows; plan = plan; took = took; stock = stock }) → Outs n own took stock
    → ((l : ℕ) → Touches (bare plan) l → MayWrite n (nodes n).write (guard_of g own l))
    → IsUnderOn g c base own (changed nodes n (record (nodes n) { knows = knows; plan = plan; took = took; stock = stock })) drive

-- a node without a plan may become any other one without a plan
abbrev pub QuietOn : Type 0
QuietOn = (g : Geometry) (c : Cat) (base : List Block) (own : Owners) (nodes : ℕ → UnderWay) (drive : List Block) (n : ℕ) (v : UnderWay) → IsUnderOn g c base own nodes drive → (nodes n).plan ≡ [] → v.plan ≡ [] → v.done ≡ 0
    → Outs n own v.took v.stock → StandsIn base v.seen → ((l : ℕ) → Touches v.seen l → MayLook v.read (guard_of g own l)) → IsUnderOn g c base own (changed nodes n v) drive

-- a node's locks change, where they guard still what it writes and has seen
abbrev pub LocksOn : Type 0
LocksOn = (g : Geometry) (c : Cat) (base : List Block) (own : Owners) (nodes : ℕ → UnderWay) (drive : List Block) (n : ℕ) (read write : List LockName) → IsUnderOn g c base own nodes drive
    → IsLawful g n (record (nodes n) { read = read; write = write })
    → ((l : ℕ) → Touches (bare (nodes n).plan) l → MayWrite n write (guard_of g own l)) → ((l : ℕ) → Touches (nodes n).seen l → MayLook read (guard_of g own l))
    → IsUnderOn g c base own (changed nodes n (record (nodes n) { read = read; write = write })) drive

-- what the channels have open is no matter of it
abbrev pub OpensOn : Type 0
OpensOn = (g : Geometry) (c : Cat) (base : List Block) (own : Owners) (nodes : ℕ → UnderWay) (drive : List Block) (opens : List (Option Open)) → IsUnderOn g c base own nodes drive → IsUnderOn g (record c { opens = opens }) base own nodes drive

-- ---- events that change them

-- what a node's writes done leave is committed in their place
abbrev pub CommitOn : Type 0
CommitOn = (g : Geometry) (c : Cat) (base : List Block) (own : Owners) (nodes : ℕ → UnderWay) (drive : List Block) (n : ℕ) → AreSole nodes → IsUnderOn g c base own nodes drive → (h : Leaves g n (nodes n) base own c (nodes n).stock (nodes n).done)
    → IsUnderOn g h.cat (written (writes_to (nodes n).done (nodes n)) base) h.new (changed nodes n (idle (nodes n))) drive

-- What a node's answer leaves: the catalogue in which its command has happened, over the blocks with its writes, and owners that the
-- command may move.
pub record AnswersOn (g : Geometry) (c : Cat) (base : List Block) (own : Owners) (nodes : ℕ → UnderWay) (drive : List Block) (n : ℕ) (x : Cmd) (r : Reply) : Type 0 where
  pub cat : Cat
  pub new : Owners
  pub moves : OwnersMove (IsCommandMove n (nodes n).write) own new
  pub answer : Answer c n x r cat
  pub under : IsUnderOn g cat (written (writes_to (nodes n).done (nodes n)) base) new (changed nodes n (idle (nodes n))) drive

abbrev pub AnswerOn : Type 0
AnswerOn = (g : Geometry) (c : Cat) (base : List Block) (own : Owners) (nodes : ℕ → UnderWay) (drive : List Block) (n : ℕ) (x : Cmd) (r : Reply) → AreSole nodes → IsUnderOn g c base own nodes drive → (nodes n).knows c ≡ true
    → (nodes n).done ≡ length (nodes n).plan → IsReply g n (nodes n) x r → AnswersOn g c base own nodes drive n x r

-- What a bitmap write leaves: it is committed at once, and owners move between what is free and what is outside at its node.
pub record BitsOn (g : Geometry) (c : Cat) (base : List Block) (own : Owners) (nodes : ℕ → UnderWay) (drive : List Block) (n l : ℕ) (b : Block) (stock : Things) : Type 0 where
  pub new : Owners
  pub moves : OwnersMove (IsSpaceMove n) own new
  pub under : IsUnderOn g c (slice_set base l b) new (changed nodes n (record (nodes n) { stock = stock })) (slice_set drive l b)

abbrev pub BitsKeepOn : Type 0
BitsKeepOn = (g : Geometry) (c : Cat) (base : List Block) (own : Owners) (nodes : ℕ → UnderWay) (drive : List Block) (n l : ℕ) (old b : Block) (stock : Things) → AreSole nodes → IsUnderOn g c base own nodes drive
    → (Touches (writes_to (nodes n).done (nodes n)) l → ⊥) → IsBitmap g l → Has (nodes n).write V → (Touches (nodes n).seen l → ⊥) → slice_get drive l ≡ Some old
    → (slice_get base l ≡ Some old → Refills g n (nodes n).took stock l b base own c) → IsPlanGuarded g c n (record (nodes n) { stock = stock })
    → BitsOn g c base own nodes drive n l b stock
