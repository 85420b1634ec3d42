-- A walk along the events of a command that counts: its locks, the blocks that it looks at, and the writes of its plan.
use Rattle.std.proofs.Common.{◌≡◌, ◌≤◌, ◌-◌, ℕ, Bool, true, false, cond, List, [], ◌∷◌, Some, length, slice_get, refl, sym, subst, arith}
use Rattle.std.specs.Prelude.{MatchBool}
use Rattle.base_words.specs.Fields.{Block}
use Rattle.lock_db.specs.declared.name.LockName.{LockName}
use Rattle.plain_cat.specs.declared.mode.Mode.{Mode}
use Rattle.plain_cat.specs.declared.command.Cmd.{Cmd}
use Rattle.plain_cat.specs.declared.cat.Cat.{Cat}
use Rattle.base_words.specs.Lists.{StandsIn}
use Rattle.vol_spell.specs.Owners.{Owners}
use Rattle.op_law.specs.declared.need.Need.{Need}
use Rattle.op_law.specs.declared.need.Need.TheVariants as need
use Rattle.op_law.specs.declared.seen.Seen.{Seen}
use Rattle.op_law.specs.Events.{Events, Take, Look, Fetch, Find, Make, Space, space_of, has_space, HasNoSpace, IsGiven, following, Follows}
use Rattle.op_law.specs.Needs.{events_of}
use Rattle.op_law.specs.Fits.{HasSeen, IsSeenOn}
use Rattle.op_law.specs.Bounds.{most_locks, most_looks, most_writes, IsBrief}

module _ (bs : List Block) (space : Space) (writes : ℕ) where
  -- With these events a command takes at most so many locks more, and looks at most at so many blocks more, which stand here;
  -- and its plan has at most so many writes, where it was given this space.
  abbrev pub BriefBy : Events → ℕ → ℕ → Type 0
  BriefBy (Take name mode next) locks looks = (1 ≤ locks) × BriefBy next (locks - 1) looks
  BriefBy (Look name lbn next) locks looks = (1 ≤ looks) × ((b : Block) → slice_get bs lbn ≡ Some b → BriefBy (next b) locks (looks - 1))
  BriefBy (Fetch lbn next) locks looks = (1 ≤ looks) × ((b : Block) → slice_get bs lbn ≡ Some b → BriefBy (next b) locks (looks - 1))
  BriefBy (Find clusters number next) locks looks = has_space clusters number space ≡ true → BriefBy (next space.clusters space.number space.short) locks looks
  BriefBy (Make plan) locks looks = length plan.writes ≤ writes

  -- a plan of at most so many writes, or no plan
  abbrev IsShort : Need → Type 0
  IsShort (need.Ready p) = length p.writes ≤ writes
  IsShort (need.Lock name mode) = Unit {0}
  IsShort (need.Block name lbn) = Unit {0}
  IsShort (need.Bare lbn) = Unit {0}
  IsShort (need.Space clusters number) = Unit {0}

  -- what was seen is not more than these events have
  record IsWithin (locks : List (LockName × Mode)) (blocks : List (ℕ × Block)) (most most_blocks : ℕ) (next : Need) : Type 0 where
    pub locks_in : length locks ≤ most
    pub blocks_in : length blocks ≤ most_blocks
    pub next_in : IsShort next

  none_in : {X : Type 0} (xs : List X) (n : ℕ) → xs ≡ [] → length xs ≤ n
  none_in xs n e = subst (λ ys. length ys ≤ n) (sym e) (omega arith)

  walks : (es : Events) (given : Type 0) (locks : List (LockName × Mode)) (blocks : List (ℕ × Block)) (m n : ℕ) → BriefBy es m n → StandsIn bs blocks → Follows es locks blocks space given
      → IsWithin locks blocks m n (following es locks blocks space)
  walks (Take name mode next) given [] blocks m n brief stands f = record { locks_in = omega arith; blocks_in = none_in blocks n f.0; next_in = tt }
  walks (Take name mode next) given (l ∷ locks) blocks m n brief stands f =
      let low = brief.0 in
      let w = walks next given locks blocks (m - 1) n brief.1 stands f.1 in
      let le = w.locks_in in
      record { locks_in = omega arith; blocks_in = w.blocks_in; next_in = w.next_in }
  walks (Look name lbn next) given locks [] m n brief stands f = record { locks_in = none_in locks m f.0; blocks_in = omega arith; next_in = tt }
  walks (Look name lbn next) given locks (b ∷ blocks) m n brief stands f =
      let low = brief.0 in
      let w = walks (next b.1) given locks blocks m (n - 1) (brief.1 b.1 (subst (λ l. slice_get bs l ≡ Some b.1) f.0 stands.0)) stands.1 f.1 in
      let le = w.blocks_in in
      record { locks_in = w.locks_in; blocks_in = omega arith; next_in = w.next_in }
  walks (Fetch lbn next) given locks [] m n brief stands f = record { locks_in = none_in locks m f.0; blocks_in = omega arith; next_in = tt }
  walks (Fetch lbn next) given locks (b ∷ blocks) m n brief stands f =
      let low = brief.0 in
      let w = walks (next b.1) given locks blocks m (n - 1) (brief.1 b.1 (subst (λ l. slice_get bs l ≡ Some b.1) f.0 stands.0)) stands.1 f.1 in
      let le = w.blocks_in in
      record { locks_in = w.locks_in; blocks_in = omega arith; next_in = w.next_in }
  walks (Find clusters number next) given locks blocks m n brief stands f =
      by_test (walks (next space.clusters space.number space.short) (IsGiven space.clusters space.number space.short) locks blocks m n) (has_space clusters number space) refl f where
        Behind : Type 0
        Behind = Follows (next space.clusters space.number space.short) locks blocks space (IsGiven space.clusters space.number space.short)

        by_test : (BriefBy (next space.clusters space.number space.short) m n → StandsIn bs blocks → Behind → IsWithin locks blocks m n (following (next space.clusters space.number space.short) locks blocks space))
            → (t : Bool) → has_space clusters number space ≡ t → MatchBool t Behind ((locks ≡ []) × (blocks ≡ []) × given)
            → IsWithin locks blocks m n (cond t (following (next space.clusters space.number space.short) locks blocks space) (need.Space clusters number))
        by_test more true has f = more (brief has) stands f
        by_test more false has f = record { locks_in = none_in locks m f.0; blocks_in = none_in blocks n f.1; next_in = tt }
  walks (Make plan) given locks blocks m n brief stands f = record { locks_in = none_in locks m f.0; blocks_in = none_in blocks n f.1; next_in = brief }

  -- fewer are at most as many
  pub brief_more : (es : Events) (m n locks looks : ℕ) → m ≤ locks → n ≤ looks → BriefBy es m n → BriefBy es locks looks
  brief_more (Take name mode next) m n locks looks le lo brief = let low = brief.0 in (omega arith, brief_more next (m - 1) n (locks - 1) looks (omega arith) lo brief.1)
  brief_more (Look name lbn next) m n locks looks le lo brief = let low = brief.0 in (omega arith, λ b at. brief_more (next b) m (n - 1) locks (looks - 1) le (omega arith) (brief.1 b at))
  brief_more (Fetch lbn next) m n locks looks le lo brief = let low = brief.0 in (omega arith, λ b at. brief_more (next b) m (n - 1) locks (looks - 1) le (omega arith) (brief.1 b at))
  brief_more (Find clusters number next) m n locks looks le lo brief = λ has. brief_more (next space.clusters space.number space.short) m n locks looks le lo (brief has)
  brief_more (Make plan) m n locks looks le lo brief = brief

-- A command is brief on these blocks, which have what it has seen.
abbrev pub IsBriefOn : Cmd → Seen → List Block → Type 0
IsBriefOn x seen bs = BriefBy bs (space_of seen) (most_writes x) (events_of seen.geometry seen.channel x) most_locks most_looks

-- What an operation shows of its command, by cases of the events, with the lemmas of `Counting` for those that commands have in
-- common. It is `brief` of `Does`, `Asks` and `OnlyLooks`.
abbrev pub Briefs : Cmd → Type 0
Briefs x = (node : ℕ) (seen : Seen) (bs : List Block) (own : Owners) (c : Cat) → IsSeenOn node x seen bs own c → IsBriefOn x seen bs

pub briefs : (x : Cmd) → Briefs x → (node : ℕ) (seen : Seen) (bs : List Block) (own : Owners) (c : Cat) → HasSeen x seen → IsSeenOn node x seen bs own c → IsBrief x seen
briefs x brief node seen bs own c has on =
    let es = events_of seen.geometry seen.channel x in
    let w = walks bs (space_of seen) (most_writes x) es (HasNoSpace (space_of seen)) seen.locks seen.blocks most_locks most_looks (brief node seen bs own c on) on.stands has in
    record { locks = w.locks_in; blocks = w.blocks_in; writes = λ p is. subst (IsShort bs (space_of seen) (most_writes x)) is w.next_in }
