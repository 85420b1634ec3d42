-- The walk of a world: first the plays of a schedule, and then turns in rotation.
use Rattle.std.specs.Prelude.{◌≡◌, ◌≤◌, ◌+◌, ◌-◌, ◌*◌, ◌⊎◌, ℕ, zero, suc, true, false, List, [], ◌∷◌, Option, Some, None, length, slice_get, take, if◌then◌else◌}
use Rattle.base_words.specs.Fields.{Block}
use Rattle.core_state.specs.Worlds.{Plain}
use Rattle.core_state.specs.Images.{IsTorn}
use Rattle.blk_drive.specs.Telling.{IsTold}
use Rattle.core_state.specs.Deaths.{is_due, after_step}
use Rattle.core_state.specs.Events.{is_over, is_write, next_event}
use Rattle.core_state.specs.Uses.{UsesTheDrives}
use Rattle.core_step.specs.Memory.{takes_none}
use Rattle.core_ends.specs.Measure.{command_steps}

-- ---- plays

-- the world after a play of a node: its turn, or the death in its place; a node that is over makes no turn
unfoldable pub after_play : Plain → ℕ → Plain
after_play w n = if is_over w n then w else after_step w n

-- the world after these plays
abbrev pub played : List ℕ → Plain → Plain
played [] w = w
played (n ∷ ns) w = played ns (after_play w n)

-- the first plays
abbrev pub IsPlayed : Plain → List ℕ → Plain → Type 0
IsPlayed old plays new = (k : ℕ) × (new ≡ played (take k plays) old)

-- ---- rotation

-- of the nodes from this number on, the first that is not over; so many numbers are tried
unfoldable pub first_from : Plain → ℕ → ℕ → Option ℕ
first_from w from zero = None
first_from w from (suc k) = if is_over w from then first_from w (from + 1) k else Some from

abbrev pub or_first : Option ℕ → Option ℕ → Option ℕ
or_first (Some n) other = Some n
or_first None other = other

-- the node whose turn comes: the first that is not over, from this number on, and behind the last node from node 1 on
unfoldable pub next_from : Plain → ℕ → Option ℕ
next_from w from = or_first (first_from w from (length w.nodes + 1 - from)) (first_from w 1 (length w.nodes))

-- a world in rotation, and the number from which on the next node is sought
pub record Rotation : Type 0 where
  pub world : Plain
  pub from : ℕ

-- the turn of a node, or the death in its place; where all are over, nothing comes
abbrev pub with_turn : Rotation → Option ℕ → Rotation
with_turn r None = r
with_turn r (Some n) = record { world = after_step r.world n; from = n + 1 }

unfoldable pub after_next : Rotation → Rotation
after_next r = with_turn r (next_from r.world r.from)

-- so many turns
unfoldable pub rotation : ℕ → Rotation → Rotation
rotation zero r = r
rotation (suc k) r = after_next (rotation k r)

-- the world after k turns in rotation, of which the first is sought from this number on
abbrev pub rotated : ℕ → ℕ → Plain → Plain
rotated k from w = (rotation k (record { world = w; from = from })).world

-- a world, after turns in rotation from node 1
abbrev pub IsRotated : Plain → Plain → Type 0
IsRotated old new = (k : ℕ) × (new ≡ rotated k 1 old)

-- the same, after at most so many
pub record IsRotatedIn (most : ℕ) (old new : Plain) : Type 0 where
  pub turns : ℕ
  pub few : turns ≤ most
  pub at : new ≡ rotated turns 1 old

-- ---- walks

-- one turn for each play, and then turns in rotation
abbrev pub Walk : Plain → List ℕ → Plain → Type 0
Walk old plays new = IsRotated (played plays old) new

-- a walk as far as it came: the first plays, or all of them and turns in rotation
abbrev pub IsPartOfWalk : Plain → List ℕ → Plain → Type 0
IsPartOfWalk old plays new = IsPlayed old plays new ⊎ Walk old plays new

-- wherever this walk stops, a block that a node uses from its cache in its next turn is the drive's
abbrev pub WalkUsesTheDrives : Plain → List ℕ → Type 0
WalkUsesTheDrives old plays = (w : Plain) (n : ℕ) → IsPartOfWalk old plays w → UsesTheDrives w n

-- for how many turns in rotation a run goes on at most
unfoldable pub budget_of : Plain → ℕ
budget_of w = command_steps * length w.nodes * (length w.script.lines + length w.nodes)

-- ---- whose turn comes

-- after the first plays, that of the next play, where that node is not over
pub record IsNextPlay (old : Plain) (plays : List ℕ) (w : Plain) (n : ℕ) : Type 0 where
  pub made : ℕ
  pub at : w ≡ played (take made plays) old
  pub play : slice_get plays made ≡ Some n
  pub alive : is_over w n ≡ false

-- after turns in rotation, that of the next node that is not over
pub record IsNextTurn (old w : Plain) (n : ℕ) : Type 0 where
  pub made : ℕ
  pub from : ℕ
  pub at : rotation made (record { world = old; from = 1 }) ≡ record { world = w; from = from }
  pub turn : next_from w from ≡ Some n

-- in a walk, the one or the other
abbrev pub IsNextIn : Plain → List ℕ → Plain → ℕ → Type 0
IsNextIn old plays w n = IsNextPlay old plays w n ⊎ IsNextTurn (played plays old) w n

-- A turn whose write failed: `IsNext` says whose turn it was, and the next event of that node is the write. Where the image told the
-- blocks of the drive at first, it has then those from before that turn, or those that the turn would have left.
pub record IsBeforeWrite (IsNext : ℕ → Type 0) (first : List Block) (told now : Option (List Block)) (w : Plain) : Type 0 where
  pub node : ℕ
  pub next : IsNext node
  pub turn : is_due w node ≡ false
  pub write : is_write (next_event w node) ≡ true
  pub image : IsTold told first → IsTorn told now w.blocks (after_step w node).blocks

-- A turn that lacked memory: `IsNext` says whose turn it was, and the next event of that node takes memory.
pub record IsBeforeTaking (IsNext : ℕ → Type 0) (w : Plain) : Type 0 where
  pub node : ℕ
  pub next : IsNext node
  pub turn : is_due w node ≡ false
  pub takes : takes_none w.locks node (next_event w node) ≡ false

-- ---- what no turn changes

pub record Stays (old new : Plain) : Type 0 where
  pub script : new.script ≡ old.script
  pub opening : new.opening ≡ old.opening
  pub geometry : new.geometry ≡ old.geometry
  pub count : length new.nodes ≡ length old.nodes
