-- The events of a command in order: a lock, a look, the search for space, and at last the plan. What comes next may go by what
-- a look has shown and by what the search has given.
use Rattle.std.specs.Prelude.{◌≡◌, ◌==◌, ◌&&◌, ◌||◌, ℕ, Bool, true, false, List, [], ◌∷◌, Option, Some, None, is_none, is_some, length, if◌then◌else◌, MatchBool}
use Rattle.base_words.specs.Fields.{Block}
use Rattle.lock_db.specs.declared.name.LockName.{LockName}
use Rattle.plain_cat.specs.declared.mode.Mode.{Mode}
use Rattle.plain_cat.specs.declared.reply.Refusal.{Refusal}
use Rattle.plain_cat.specs.declared.reply.Refusal.TheVariants as refusal
use Rattle.op_law.specs.declared.need.Need.{Need}
use Rattle.op_law.specs.declared.need.Need.TheVariants as need
use Rattle.op_law.specs.declared.need.Plan.{Plan}
use Rattle.op_law.specs.declared.seen.Seen.{Seen}

pub data Events : Type 0 where
  -- a lock in a mode, and what comes after it
  Take : LockName → Mode → Events → Events
  -- a look at the block of an LBN under a lock, and what comes next by the block
  Look : LockName → ℕ → (Block → Events) → Events
  -- a look at a file's own block, and what comes next by it
  Fetch : ℕ → (Block → Events) → Events
  -- so many clusters, and a number or none, and what comes next by those that were given and by why they were not
  Find : ℕ → Bool → (List ℕ → Option ℕ → Option Refusal → Events) → Events
  -- the plan
  Make : Plan → Events

-- ---- space

-- what a search for space has given: clusters, a number, or why it gave none
pub record Space : Type 0 where
  pub clusters : List ℕ
  pub number : Option ℕ
  pub short : Option Refusal

abbrev pub space_of : Seen → Space
space_of seen = record { clusters = seen.clusters; number = seen.number; short = seen.short }

-- a number was given where one is wanted, and none where none is
abbrev pub has_number : Bool → Option ℕ → Bool
has_number true number = is_some number
has_number false number = is_none number

-- space was given, or it was refused
abbrev pub has_space : ℕ → Bool → Space → Bool
has_space clusters number s = is_some s.short || ((length s.clusters == clusters) && has_number number s.number)

-- nothing was given, and nothing refused
pub record HasNoSpace (s : Space) : Type 0 where
  pub clusters : s.clusters ≡ []
  pub number : s.number ≡ None
  pub short : s.short ≡ None

-- what a refusal of space leaves is nothing, and none comes but for want of clusters or of a number
abbrev pub IsGiven : List ℕ → Option ℕ → Option Refusal → Type 0
IsGiven clusters number None = Unit {0}
IsGiven clusters number (Some refusal.IndexFull) = (clusters ≡ []) × (number ≡ None)
IsGiven clusters number (Some refusal.DeviceFull) = (clusters ≡ []) × (number ≡ None)
IsGiven clusters number (Some other) = ⊥

-- no space is searched for
abbrev pub HasNoSearch : Events → Type 0
HasNoSearch (Take name mode next) = HasNoSearch next
HasNoSearch (Look name lbn next) = (b : Block) → HasNoSearch (next b)
HasNoSearch (Fetch lbn next) = (b : Block) → HasNoSearch (next b)
HasNoSearch (Find clusters number next) = ⊥
HasNoSearch (Make plan) = Unit {0}

-- space is searched for at most once
abbrev pub SearchesOnce : Events → Type 0
SearchesOnce (Take name mode next) = SearchesOnce next
SearchesOnce (Look name lbn next) = (b : Block) → SearchesOnce (next b)
SearchesOnce (Fetch lbn next) = (b : Block) → SearchesOnce (next b)
SearchesOnce (Find clusters number next) = (given : List ℕ) (n : Option ℕ) (short : Option Refusal) → HasNoSearch (next given n short)
SearchesOnce (Make plan) = Unit {0}

-- ---- what was seen

-- The next need of a command that has these events, where these locks and blocks are those seen, and this space was given.
abbrev pub following : Events → List (LockName × Mode) → List (ℕ × Block) → Space → Need
following (Take name mode next) [] blocks space = need.Lock name mode
following (Take name mode next) (l ∷ locks) blocks space = following next locks blocks space
following (Look name lbn next) locks [] space = need.Block name lbn
following (Look name lbn next) locks (b ∷ blocks) space = following (next b.1) locks blocks space
following (Fetch lbn next) locks [] space = need.Bare lbn
following (Fetch lbn next) locks (b ∷ blocks) space = following (next b.1) locks blocks space
following (Find clusters number next) locks blocks space =
    if has_space clusters number space then following (next space.clusters space.number space.short) locks blocks space else need.Space clusters number
following (Make plan) locks blocks space = need.Ready plan

-- the same by all that was seen
abbrev pub next_of : Events → Seen → Need
next_of es seen = following es seen.locks seen.blocks (space_of seen)

-- These locks and blocks are the first of those that these events need, each in its turn; and what was given before the search
-- for space is as `given` says.
abbrev pub Follows : Events → List (LockName × Mode) → List (ℕ × Block) → Space → Type 0 → Type 0
Follows (Take name mode next) [] blocks space given = (blocks ≡ []) × given
Follows (Take name mode next) (l ∷ locks) blocks space given = (l ≡ (name, mode)) × Follows next locks blocks space given
Follows (Look name lbn next) locks [] space given = (locks ≡ []) × given
Follows (Look name lbn next) locks (b ∷ blocks) space given = (b.0 ≡ lbn) × Follows (next b.1) locks blocks space given
Follows (Fetch lbn next) locks [] space given = (locks ≡ []) × given
Follows (Fetch lbn next) locks (b ∷ blocks) space given = (b.0 ≡ lbn) × Follows (next b.1) locks blocks space given
Follows (Find clusters number next) locks blocks space given =
    MatchBool (has_space clusters number space)
    (Follows (next space.clusters space.number space.short) locks blocks space (IsGiven space.clusters space.number space.short))
    ((locks ≡ []) × (blocks ≡ []) × given)
Follows (Make plan) locks blocks space given = (locks ≡ []) × (blocks ≡ []) × given
