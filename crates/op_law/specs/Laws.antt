-- The law of an operation.
use Rattle.std.specs.Prelude.{◌≡◌, ◌⊎◌, ◌≤◌, ◌<◌, ◌-◌, ◌&&◌, not, nat_le, ℕ, Bool, true, false, List, [], ◌∷◌, Option, Some, None, length, map, filter, take, slice_get, Ok}
use Rattle.base_words.specs.Fields.{Block}
use Rattle.fx_header.specs.declared.slot.Hdr.{Hdr}
use Rattle.fx_header.specs.declared.slot.Slot.TheVariants.{Free}
use Rattle.fx_header.specs.Headers.{header_read}
use Rattle.lock_db.specs.declared.name.LockName.{LockName}
use Rattle.lock_db.specs.declared.name.LockName.TheVariants.{S, Q, V}
use Rattle.plain_cat.specs.Modes.{rank}
use Rattle.plain_cat.specs.declared.mode.Mode.{Mode}
use Rattle.plain_cat.specs.declared.mode.Mode.TheVariants.{PR, PW}
use Rattle.plain_cat.specs.declared.command.Cmd.{Cmd}
use Rattle.plain_cat.specs.declared.reply.Reply.{Reply}
use Rattle.plain_cat.specs.declared.reply.Reply.TheVariants as reply
use Rattle.plain_cat.specs.declared.cat.Cat.{Cat}
use Rattle.plain_cat.specs.declared.cat.File.{File}
use Rattle.plain_rules.specs.Lookups.{file_at, header_most}
use Rattle.vol_spell.specs.declared.owner.Owner.TheVariants.{InFile}
use Rattle.base_words.specs.Lists.{Has, Touches, StandsIn}
use Rattle.vol_spell.specs.Owners.{Owners, Things, nothing, Outs}
use Rattle.vol_parts.specs.declared.geometry.Geometry.{Geometry}
use Rattle.vol_parts.specs.declared.geometry.Part.{Part}
use Rattle.vol_parts.specs.declared.geometry.Part.TheVariants.{Header}
use Rattle.vol_parts.specs.Parts.{part_of}
use Rattle.vol_spell.specs.Reading.{owner_at, header_block, fields_told, runs_told}
use Rattle.vol_spell.specs.Spelling.{Spells, IsBlank}
use Rattle.vol_under.specs.Guards.{Guard, Lock, Stock, guard_of, MayWrite, MayLook}
use Rattle.vol_under.specs.UnderWay.{PlannedWrite, bare, outs_after, UnderWay}
use Rattle.vol_under.specs.Under.{IsLawful}
use Rattle.vol_under.specs.Answering.{IsReply}
use Rattle.op_law.specs.declared.need.Need.{Need}
use Rattle.op_law.specs.declared.need.Need.TheVariants as need
use Rattle.op_law.specs.declared.need.Plan.{Plan}
use Rattle.op_law.specs.declared.need.PlanWrite.{PlanWrite}
use Rattle.op_law.specs.declared.need.Ask.{Ask}
use Rattle.op_law.specs.declared.seen.Seen.{Seen}
use Rattle.op_law.specs.declared.seen.Chan.{Chan}
use Rattle.op_law.specs.Knows.{channel_of, asking_part, takes_space, Wanted, wanted, may_ask, knows, is_granted}
use Rattle.op_law.specs.Events.{space_of, HasNoSpace, SearchesOnce}
use Rattle.op_law.specs.Order.{IsBefore}
use Rattle.op_law.specs.Needs.{events_of, IsNext}
use Rattle.op_law.specs.Fits.{HasSeen, things, IsSeenOn}
use Rattle.op_law.specs.Bounds.{IsBrief}

-- ---- a command under way

-- the names of those locks that are held in this mode or a stronger one
abbrev pub held_in : Mode → List (LockName × Mode) → List LockName
held_in mode locks = map (λ l. l.0) (filter (λ l. nat_le (rank mode) (rank l.1)) locks)

-- these things, and in front of their numbers these file numbers
abbrev pub numbers_before : List ℕ → Things → Things
numbers_before [] t = t
numbers_before (n ∷ ns) t = let rest = numbers_before ns t in record rest { numbers = (n - 1) ∷ rest.numbers }

abbrev pub planned : PlanWrite → PlannedWrite
planned w = record { lbn = w.lbn; block = w.block; stage = w.stage; outs = numbers_before w.numbers (things w.clusters w.number) }

-- a node with a command under way that has seen this, has decided on these writes, and knows this of the catalogue
abbrev pub under_way : Cmd → Seen → List PlanWrite → (Cat → Bool) → UnderWay
under_way cmd seen writes known = record {
  read = held_in PR seen.locks;
  write = held_in PW seen.locks;
  cmd = Some cmd;
  seen = seen.blocks;
  knows = known;
  took = things seen.clusters seen.number;
  plan = map planned writes;
  done = 0;
  stock = nothing;
}

-- ---- needs

-- the locks that a command takes itself: those of files and their headers, Q, and V where it takes no space, since else the search for space takes V
abbrev pub takes_lock : Cmd → LockName → Bool
takes_lock cmd (S n) = true
takes_lock cmd Q = true
takes_lock cmd V = not (takes_space cmd)
takes_lock cmd other = false

-- V comes behind Q in PW; and the locks of files and their headers before Q, but for that of the number that was given
abbrev pub ComesInTurn : List (LockName × Mode) → Option ℕ → LockName → Type 0
ComesInTurn locks number (S n) = (Has (map (λ l. l.0) locks) Q → ⊥) ⊎ (number ≡ Some n)
ComesInTurn locks number V = Has (held_in PW locks) Q
ComesInTurn locks number other = Unit {0}

-- One of these, which is not held yet, in PR or PW, in its turn, where this number was given; and behind all that are held, in the
-- order of the names on these blocks, which have these owners and spell c.
pub record IsNewLock (cmd : Cmd) (g : Geometry) (bs : List Block) (owners : Owners) (c : Cat) (locks : List (LockName × Mode)) (number : Option ℕ) (name : LockName) (mode : Mode) : Type 0 where
  pub new : Has (map (λ l. l.0) locks) name → ⊥
  pub in_mode : Has (PR ∷ PW ∷ []) mode
  pub own : takes_lock cmd name ≡ true
  pub turn : ComesInTurn locks number name
  pub after : (held : LockName) → Has (map (λ l. l.0) locks) held → IsBefore g bs owners c held name

-- A block that may be cached: it is a fixed part of the volume, or lies in a cluster of a directory. Blocks of other files are no
-- such blocks.
pub data IsCacheable (g : Geometry) (own : Owners) (c : Cat) (lbn : ℕ) : Type 0 where
  Fixed : (p : Part) → part_of g lbn ≡ Some p → IsCacheable g own c lbn
  OfDirectory : (n : ℕ) (f : File) → file_at c n ≡ Some f → f.dir ≡ true → owner_at g own lbn ≡ Some (InFile n) → IsCacheable g own c lbn

-- a block of the volume that may be cached, whose lock has this name and is held
pub record IsLockedLook (g : Geometry) (bs : List Block) (own : Owners) (c : Cat) (locks : List (LockName × Mode)) (name : LockName) (lbn : ℕ) : Type 0 where
  pub kind : IsCacheable g own c lbn
  pub guard : guard_of g own lbn ≡ Some (Lock name)
  pub held : Has (held_in PR locks) name
  pub within : lbn < length bs

-- a block of the volume at which who holds these locks may look
pub record IsGuardedLook (g : Geometry) (bs : List Block) (own : Owners) (locks : List (LockName × Mode)) (lbn : ℕ) : Type 0 where
  pub guard : MayLook (held_in PR locks) (guard_of g own lbn)
  pub within : lbn < length bs

-- a search of a command that takes space and holds Q in PW, for what it wants, and no more clusters than a header lists
pub record IsSearch (cmd : Cmd) (locks : List (LockName × Mode)) (k : Wanted) (clusters : ℕ) (number : Bool) : Type 0 where
  pub takes : takes_space cmd ≡ true
  pub quota : Has (held_in PW locks) Q
  pub few : clusters ≤ header_most
  pub clusters_are : clusters ≡ k.clusters
  pub number_is : number ≡ k.number

-- What a command may need on blocks that spell a catalogue and have what it has seen: a new lock, a look under a lock that it holds, and once a search
-- for space.
abbrev pub MayNeed : Cmd → Seen → List Block → Owners → Cat → Need → Type 0
MayNeed cmd seen bs own c (need.Lock name mode) = IsNewLock cmd seen.geometry bs own c seen.locks seen.number name mode
MayNeed cmd seen bs own c (need.Block name lbn) = IsLockedLook seen.geometry bs own c seen.locks name lbn
MayNeed cmd seen bs own c (need.Bare lbn) = IsGuardedLook seen.geometry bs own seen.locks lbn
MayNeed cmd seen bs own c (need.Space clusters number) = IsSearch cmd seen.locks (wanted seen cmd) clusters number × HasNoSpace (space_of seen)
MayNeed cmd seen bs own c (need.Ready plan) = Unit {0}

-- ---- plans

-- A write under the lock of this name: it is held in PW, and guards the block, unless the node has the block outside.
pub record IsNamed (node : ℕ) (locks : List LockName) (name : LockName) (guard : Option Guard) : Type 0 where
  pub held : Has locks name
  pub guards : (guard ≡ Some (Lock name)) ⊎ (guard ≡ Some (Stock node))

-- each of these writes is under the lock that it names
abbrev pub AreNamed : ℕ → List LockName → Geometry → Owners → List PlanWrite → Type 0
AreNamed node locks g own ws = (w : PlanWrite) → Has ws w → IsNamed node locks w.lock (guard_of g own w.lbn)

-- so it is on all blocks that have what the node has seen, and on which what it knows is so
abbrev pub OnItsBlocks : ℕ → UnderWay → Geometry → (List Block → Owners → Type 0) → Type 0
OnItsBlocks node u g P = (base : List Block) (own : Owners) (c : Cat) (stock : Things) → Spells g base own c → u.knows c ≡ true → StandsIn base u.seen → Outs node own u.took stock → P base own

-- each write is to a block whose lock is held in PW, or that the node has outside
abbrev pub AreGuarded : ℕ → UnderWay → Geometry → Type 0
AreGuarded node u g = OnItsBlocks node u g (λ base own. (l : ℕ) → Touches (bare u.plan) l → MayWrite node u.write (guard_of g own l))

-- The most file numbers that a write of a plan leaves outside: those of all headers of a file.
abbrev pub most_outside : ℕ
most_outside = 16

-- each of these writes leaves at most so many
abbrev pub LeaveFew : List PlanWrite → Type 0
LeaveFew ws = (w : PlanWrite) → Has ws w → length (planned w).outs.numbers ≤ most_outside

-- after each of these writes what is outside is nothing, or what was given, or V is held in PW and few file numbers are outside
abbrev pub KeepsOut : Things → List LockName → List PlanWrite → Type 0
KeepsOut given locks ws = (w : PlanWrite) → Has ws w → ((planned w).outs ≡ nothing) ⊎ (((planned w).outs ≡ given) ⊎ (Has locks V × (length (planned w).outs.numbers ≤ most_outside)))

-- a header that is in use is a directory's
abbrev pub is_dir_told : Option Hdr → Bool
is_dir_told None = false
is_dir_told (Some h) = h.dir

-- A block written to a header slot leaves the runs of a directory that the old one tells: it is a free slot, or the old one tells no
-- directory, or it tells a directory of the same runs.
pub data KeepsRuns (old new : Block) : Type 0 where
  Freed : (last : ℕ) → header_read new ≡ Ok (Free last) → KeepsRuns old new
  NoDir : is_dir_told (fields_told old) ≡ false → KeepsRuns old new
  Same : is_dir_told (fields_told new) ≡ true → runs_told new ≡ runs_told old → KeepsRuns old new

-- each of these writes that is to a header leaves a directory's runs, so that they leave it with a free slot alone
abbrev pub LeavesDirs : Geometry → List Block → List PlanWrite → Type 0
LeavesDirs g base ws = (w : PlanWrite) → Has ws w → (i : ℕ) → part_of g w.lbn ≡ Some (Header i) → KeepsRuns (header_block g base i) w.block

-- The slot of a number may get this block: the block leaves it free, or the number is a file's, or the number was given to the command.
pub data MayFill (own : Owners) (took : Things) (i : ℕ) (b : Block) : Type 0 where
  Empty : IsBlank b → MayFill own took i b
  OfFile : (n : ℕ) → slice_get own.numbers (i - 1) ≡ Some (InFile n) → MayFill own took i b
  Given : Has took.numbers (i - 1) → MayFill own took i b

-- so it is with each of these writes that is to a header
abbrev pub LeavesSlots : Geometry → Owners → Things → List PlanWrite → Type 0
LeavesSlots g own took ws = (w : PlanWrite) → Has ws w → (i : ℕ) → part_of g w.lbn ≡ Some (Header i) → MayFill own took i w.block

-- These writes, which are the node's plan, and this reply are right: each write is guarded, by the lock that it names, each
-- number of the writes leaves a stage of the command, the reply goes with all of them, and after them the command has nothing
-- outside, nor before that anything but what it was given, where it does not hold V in PW, and never many file numbers. A header
-- that is written leaves a directory's runs, unless its slot becomes free; and it stands in the slot of a number that is a file's or was
-- given to the command, unless it leaves the slot free.
pub record IsRight (node : ℕ) (cmd : Cmd) (g : Geometry) (ws : List PlanWrite) (u : UnderWay) (r : Reply) : Type 0 where
  pub named : OnItsBlocks node u g (λ base own. AreNamed node u.write g own ws)
  pub guarded : AreGuarded node u g
  pub lawful : IsLawful g node u
  pub reply : IsReply g node u cmd r
  pub left : outs_after u.took u.plan ≡ nothing
  pub dirs : OnItsBlocks node u g (λ base own. LeavesDirs g base ws)
  pub slots : OnItsBlocks node u g (λ base own. LeavesSlots g own u.took ws)
  pub kept_out : OnItsBlocks node u g (λ base own. KeepsOut u.took u.write ws)

-- a refusal writes nothing
abbrev pub WritesNothing : Plan → Reply → Type 0
WritesNothing p (reply.Refused r) = (p.writes ≡ []) × (p.ask ≡ None)
WritesNothing p other = Unit {0}

-- an ask of a plan, behind so many of its writes: of a command that may ask, by its channel or else by the file system, for who has
-- a file open whose lock it holds in PW
pub record IsAsk (cmd : Cmd) (seen : Seen) (p : Plan) (a : Ask) : Type 0 where
  pub may : may_ask cmd ≡ true
  pub by : a.chan ≡ asking_part (channel_of cmd)
  pub held : Has (held_in PW seen.locks) (S a.file)
  pub within : a.at ≤ length p.writes

-- With an ask the whole plan is right where the ask is granted, and where it is not, the writes before it with its refusal.
abbrev pub IsPlan : ℕ → Cmd → Seen → Plan → Option Ask → Type 0
IsPlan node cmd seen p None = IsRight node cmd seen.geometry p.writes (under_way cmd seen p.writes (knows node cmd seen)) p.reply
IsPlan node cmd seen p (Some a) =
    IsAsk cmd seen p a
    × IsRight node cmd seen.geometry p.writes (under_way cmd seen p.writes (λ c. knows node cmd seen c && is_granted node a c)) p.reply
    × IsRight node cmd seen.geometry (take a.at p.writes) (under_way cmd seen (take a.at p.writes) (λ c. knows node cmd seen c && not (is_granted node a c))) a.refused
    × IsLawful seen.geometry node (under_way cmd seen (take a.at p.writes) (knows node cmd seen))

-- The law of a command: it searches for space at most once; what it needs next, whatever it has seen, it may need on all blocks
-- that have that; its plan is right at each node; and it is brief on blocks that have what it has seen, where a directory has one
-- cluster and a file no more than 16 headers list.
pub record Lawful (cmd : Cmd) : Type 0 where
  pub searches : (g : Geometry) (channel : Option Chan) → SearchesOnce (events_of g channel cmd)
  pub needs : (node : ℕ) (seen : Seen) (bs : List Block) (own : Owners) (c : Cat) (next : Need) → HasSeen cmd seen → IsSeenOn node cmd seen bs own c → IsNext cmd seen next → MayNeed cmd seen bs own c next
  pub plans : (node : ℕ) (seen : Seen) (p : Plan) → HasSeen cmd seen → IsNext cmd seen (need.Ready p) → IsPlan node cmd seen p p.ask
  pub refusals : (seen : Seen) (p : Plan) → HasSeen cmd seen → IsNext cmd seen (need.Ready p) → WritesNothing p p.reply
  pub brief : (node : ℕ) (seen : Seen) (bs : List Block) (own : Owners) (c : Cat) → HasSeen cmd seen → IsSeenOn node cmd seen bs own c → IsBrief cmd seen
