-- What comes next behind the first of what a command has seen.
use Rattle.std.specs.Prelude.{◌≡◌, ◌≤◌, ℕ, List, [], ◌∷◌, Option, Some, None, length, take}
use Rattle.base_words.specs.Fields.{Block}
pub use Rattle.base_words.specs.Fields.{blocks_alone}
use Rattle.op_law.specs.declared.need.Need.{Need}
use Rattle.op_law.specs.declared.seeing.Rest.{Rest}
use Rattle.op_law.specs.declared.seeing.Granted.{Granted}
use Rattle.op_law.specs.declared.seeing.Granted.TheVariants as granted
use Rattle.op_law.specs.declared.seeing.Looked.{Looked}
use Rattle.op_law.specs.declared.seeing.Looked.TheVariants as looked
use Rattle.op_law.specs.declared.seeing.Listed.{Listed}
use Rattle.op_law.specs.declared.seeing.Listed.TheVariants as listed
use Rattle.op_law.specs.declared.seeing.Listing.{Listing}
use Rattle.op_law.specs.declared.seeing.Listing.TheVariants as listing
use Rattle.op_law.specs.declared.seen.Seen.{Seen}
use Rattle.op_law.specs.Events.{Events, Space, space_of, HasNoSpace, following, Follows}

-- the next need of these events, where this was seen from them on
abbrev pub goes_on_by : Events → Rest → Space → Need
goes_on_by es rest space = following es rest.locks.now rest.blocks.now space

-- what was seen from these events on are the first of those that they need, and they come before a search for space
abbrev pub FollowsBy : Events → Rest → Space → Type 0
FollowsBy es rest space = Follows es rest.locks.now rest.blocks.now space (HasNoSpace space)

-- the same of all that was seen
abbrev pub HasFirst : Events → Seen → Type 0
HasFirst es seen = Follows es seen.locks seen.blocks (space_of seen) (HasNoSpace (space_of seen))

-- behind a lock, or what comes before it
abbrev pub behind_lock : Events → Space → Granted → Need
behind_lock next space (granted.Held rest) = goes_on_by next rest space
behind_lock next space (granted.Next need) = need

-- what was seen behind it follows what comes there
abbrev pub FollowsLock : Events → Space → Granted → Type 0
FollowsLock next space (granted.Held rest) = FollowsBy next rest space
FollowsLock next space (granted.Next need) = Unit {0}

-- behind a block, by what it shows
abbrev pub behind_block : (Block → Events) → Space → Looked → Need
behind_block next space (looked.Seen b rest) = goes_on_by (next b.now) rest space
behind_block next space (looked.Next need) = need

abbrev pub FollowsBlock : (Block → Events) → Space → Looked → Type 0
FollowsBlock next space (looked.Seen b rest) = FollowsBy (next b.now) rest space
FollowsBlock next space (looked.Next need) = Unit {0}

-- behind blocks
abbrev pub behind_all : (List Block → Events) → Space → Listed → Need
behind_all next space (listed.All seen rest) = goes_on_by (next (blocks_alone seen.now)) rest space
behind_all next space (listed.Next need) = need

abbrev pub FollowsAll : (List Block → Events) → Space → Listed → Type 0
FollowsAll next space (listed.All seen rest) = FollowsBy (next (blocks_alone seen.now)) rest space
FollowsAll next space (listed.Next need) = Unit {0}

-- these are not more blocks than so many
abbrev pub HasAtMost : ℕ → Listed → Type 0
HasAtMost count (listed.All seen rest) = length seen.now ≤ count
HasAtMost count (listed.Next need) = Unit {0}

-- all places were seen, so none is the first that was not, and these are the first of the blocks that were seen
pub record AreFirst (count : ℕ) (unseen : Option ℕ) (blocks seen : List (ℕ × Block)) : Type 0 where
  pub none : unseen ≡ None
  pub front : seen ≡ take count blocks

abbrev pub ListsFirst : ℕ → Option ℕ → List (ℕ × Block) → Listed → Type 0
ListsFirst count unseen blocks (listed.All seen rest) = AreFirst count unseen blocks seen.now
ListsFirst count unseen blocks (listed.Next need) = Unit {0}

-- behind the header of a directory and its blocks
abbrev pub behind_directory : (Block → List Block → Events) → Space → Listing → Need
behind_directory next space (listing.All b seen rest) = goes_on_by (next b.now (blocks_alone seen.now)) rest space
behind_directory next space (listing.Next need) = need

-- all of these blocks were seen behind the lock
abbrev pub HasBlocks : List (ℕ × Block) → Granted → Type 0
HasBlocks blocks (granted.Held rest) = rest.blocks.now ≡ blocks
HasBlocks blocks (granted.Next need) = Unit {0}

-- the block that was seen first, and those behind it
abbrev pub first_seen : List (ℕ × Block) → Option (Block × List (ℕ × Block))
first_seen [] = None
first_seen (h ∷ seen) = Some (h.1, seen)

-- the block is the one that was seen first, and the others are those behind it
abbrev pub IsHeadOf : List (ℕ × Block) → Looked → Type 0
IsHeadOf blocks (looked.Seen b rest) = first_seen blocks ≡ Some (b.now, rest.blocks.now)
IsHeadOf blocks (looked.Next need) = Unit {0}
