-- What each event leaves of the drive under way.
use Rattle.std.specs.Prelude.{◌≡◌, ◌≤◌, ◌+◌, ◌⊎◌, ℕ, Bool, true, List, [], ◌∷◌, Option, Some, Ok, length, take, slice_get, slice_set}
use Rattle.base_words.specs.Fields.{Block, AreWholeBlocks}
use Rattle.fx_home.specs.declared.home.Home.{Home}
use Rattle.fx_home.specs.Homes.{home_read}
use Rattle.lock_db.specs.declared.name.LockName.{LockName}
use Rattle.lock_db.specs.declared.name.LockName.TheVariants.{V}
use Rattle.plain_cat.specs.declared.command.Cmd.{Cmd}
use Rattle.plain_cat.specs.declared.cat.Cat.{Cat}
use Rattle.base_words.specs.Lists.{Has, Touches, StandsIn}
use Rattle.vol_spell.specs.Owners.{Owners, OwnersMove, IsSpaceMove, Things, nothing, Outs}
use Rattle.vol_parts.specs.declared.geometry.Geometry.{Geometry}
use Rattle.vol_parts.specs.declared.geometry.Part.TheVariants.{IndexBitmap, Storage}
use Rattle.vol_parts.specs.Parts.{part_of}
use Rattle.vol_parts.specs.Volumes.{volume, geometry_of}
use Rattle.vol_parts.specs.Findings.{home_at, CatOf}
use Rattle.vol_spell.specs.Spelling.{Spells}
use Rattle.vol_under.specs.Guards.{guard_of, MayWrite, MayLook}
use Rattle.vol_under.specs.UnderWay.{PlannedWrite, bare, UnderWay, writes_to, stage_at, resting, idle, changed, AreSole, StandsAt}
use Rattle.vol_under.specs.Under.{Leaves, IsLawful, IsUnder}

-- a node that writes nothing is lawful
abbrev pub IdleLawful : Type 0
IdleLawful = (g : Geometry) (n : ℕ) (u : UnderWay) → u.plan ≡ [] → IsLawful g n u

-- blocks that spell c, with nothing outside at any node, are the drive of nodes that have nothing under way
abbrev pub RestStands : Type 0
RestStands = (g : Geometry) (c : Cat) (own : Owners) (drive : List Block) → Spells g drive own c → ((n : ℕ) → Outs n own nothing nothing) → IsUnder g c (λ n. resting nothing) drive

-- so is a volume of whole blocks in which nothing fatal is found, by the geometry that its home block gives: as it is mounted
abbrev pub MountStands : Type 0
MountStands = (bs : List Block) (c : Cat) → 64 ≤ length bs → length bs ≤ 65536 → AreWholeBlocks bs → CatOf bs c
    → (h : Home) × (home_read (home_at bs) ≡ Ok h) × IsUnder (geometry_of (volume h bs)) c (λ n. resting nothing) bs

-- nodes that are alike one by one have the same drive
abbrev pub NodesAlike : Type 0
NodesAlike = (g : Geometry) (c : Cat) (nodes others : ℕ → UnderWay) (drive : List Block) → ((n : ℕ) → nodes n ≡ others n) → IsUnder g c nodes drive → IsUnder g c others drive

-- the next write of a node's plan
abbrev pub WriteKeeps : Type 0
WriteKeeps = (g : Geometry) (c : Cat) (nodes : ℕ → UnderWay) (drive : List Block) (n : ℕ) (w : PlannedWrite) → AreSole nodes → IsUnder g c nodes drive → slice_get (nodes n).plan (nodes n).done ≡ Some w
    → IsUnder g c (changed nodes n (record (nodes n) { done = (nodes n).done + 1 })) (slice_set drive w.lbn w.block)

-- what a node's writes done leave of the committed blocks is committed in their place
abbrev pub CommitKeeps : Type 0
CommitKeeps = (g : Geometry) (c : Cat) (nodes : ℕ → UnderWay) (drive : List Block) (n : ℕ) → AreSole nodes → (u : IsUnder g c nodes drive) → (h : Leaves g n (nodes n) u.base u.own c (nodes n).stock (nodes n).done)
    → IsUnder g h.cat (changed nodes n (idle (nodes n))) drive

-- a node stops, by its answer or by its death: its writes done are committed, and the catalogue is that of their stage
abbrev pub StopKeeps : Type 0
StopKeeps = (g : Geometry) (c : Cat) (nodes : ℕ → UnderWay) (drive : List Block) (n : ℕ) → AreSole nodes → IsUnder g c nodes drive → (nodes n).knows c ≡ true
    → (d : Cat) × StandsAt c n (nodes n).cmd (stage_at (nodes n).done (nodes n)) d × IsUnder g d (changed nodes n (idle (nodes n))) drive

-- What a write of a bitmap leaves for node n: other owners, which move between what is free and what is outside at it, and
-- the same catalogue.
pub record Refills (g : Geometry) (n : ℕ) (took stock : Things) (l : ℕ) (b : Block) (base : List Block) (own : Owners) (c : Cat) : Type 0 where
  pub new : Owners
  pub spelt : Spells g (slice_set base l b) new c
  pub moves : OwnersMove (IsSpaceMove n) own new
  pub outs : Outs n new took stock

-- a block of a bitmap
abbrev pub IsBitmap : Geometry → ℕ → Type 0
IsBitmap g l = (part_of g l ≡ Some IndexBitmap) ⊎ ((k : ℕ) × (part_of g l ≡ Some (Storage k)))

-- a bitmap write of a node that has no plan and that has not seen the block for its command: it is committed at once
abbrev pub BitsKeep : Type 0
BitsKeep = (g : Geometry) (c : Cat) (nodes : ℕ → UnderWay) (drive : List Block) (n l : ℕ) (old b : Block) (stock : Things) → AreSole nodes → IsUnder g c nodes drive
    → (nodes n).plan ≡ [] → IsBitmap g l → Has (nodes n).write V → (Touches (nodes n).seen l → ⊥) → slice_get drive l ≡ Some old
    → ((base : List Block) (own : Owners) → Spells g base own c → Outs n own (nodes n).took (nodes n).stock → slice_get base l ≡ Some old → Refills g n (nodes n).took stock l b base own c)
    → IsUnder g c (changed nodes n (record (nodes n) { stock = stock })) (slice_set drive l b)

-- a block under a lock that a node holds, and that it has not written, stands on the drive as it is committed
abbrev pub HeldStands : Type 0
HeldStands = (g : Geometry) (c : Cat) (nodes : ℕ → UnderWay) (drive : List Block) (n l : ℕ) → AreSole nodes → (u : IsUnder g c nodes drive) → (Touches (writes_to (nodes n).done (nodes n)) l → ⊥)
    → MayWrite n (nodes n).write (guard_of g u.own l) ⊎ MayLook (nodes n).read (guard_of g u.own l) → slice_get drive l ≡ slice_get u.base l

-- a node without a plan looks at a block whose lock it holds
abbrev pub LookKeeps : Type 0
LookKeeps = (g : Geometry) (c : Cat) (nodes : ℕ → UnderWay) (drive : List Block) (n l : ℕ) (b : Block) → AreSole nodes → IsUnder g c nodes drive → (nodes n).plan ≡ [] → slice_get drive l ≡ Some b
    → ((base : List Block) (own : Owners) → Spells g base own c → StandsIn base (nodes n).seen → MayLook (nodes n).read (guard_of g own l))
    → IsUnder g c (changed nodes n (record (nodes n) { seen = (l, b) ∷ (nodes n).seen })) drive

-- A node decides on writes, the writes done being the first of them, with what it knows by now, and takes from its stock what
-- the command needs.
abbrev pub PlanKeeps : Type 0
PlanKeeps = (g : Geometry) (c : Cat) (nodes : ℕ → UnderWay) (drive : List Block) (n : ℕ) (knows : Cat → Bool) (plan : List PlannedWrite) (took stock : Things) → IsUnder g c nodes drive
    → take (nodes n).done plan ≡ take (nodes n).done (nodes n).plan → (nodes n).done ≤ length plan
    → IsLawful g n (record (nodes n) { knows = knows; plan = plan; took = took; stock = stock })
    → ((own : Owners) → Outs n own (nodes n).took (nodes n).stock → Outs n own took stock)
    → ((base : List Block) (own : Owners) → Spells g base own c → StandsIn base (nodes n).seen → Outs n own took stock → (l : ℕ) → Touches (bare plan) l → MayWrite n (nodes n).write (guard_of g own l))
    → IsUnder g c (changed nodes n (record (nodes n) { knows = knows; plan = plan; took = took; stock = stock })) drive

-- a node is granted more locks
abbrev pub GrantKeeps : Type 0
GrantKeeps = (g : Geometry) (c : Cat) (nodes : ℕ → UnderWay) (drive : List Block) (n : ℕ) (read write : List LockName) → IsUnder g c nodes drive
    → ((name : LockName) → Has (nodes n).read name → Has read name) → ((name : LockName) → Has (nodes n).write name → Has write name)
    → IsUnder g c (changed nodes n (record (nodes n) { read = read; write = write })) drive

-- a node without a plan begins a command, or gives back locks of which none guards what it has seen
abbrev pub ReadyKeeps : Type 0
ReadyKeeps = (g : Geometry) (c : Cat) (nodes : ℕ → UnderWay) (drive : List Block) (n : ℕ) (cmd : Option Cmd) (knows : Cat → Bool) (read write : List LockName) → IsUnder g c nodes drive → (nodes n).plan ≡ []
    → ((own : Owners) (l : ℕ) → Touches (nodes n).seen l → MayLook (nodes n).read (guard_of g own l) → MayLook read (guard_of g own l))
    → IsUnder g c (changed nodes n (record (nodes n) { cmd = cmd; knows = knows; read = read; write = write })) drive
