-- What a command wants stays as it sees more, once it has seen a block; and it searches for space behind its first look.
use Rattle.std.proofs.Common.{◌≡◌, ◌<◌, ◌++◌, ℕ, Bool, true, false, cond, List, [], ◌∷◌, length, refl, arith}
use Rattle.base_words.specs.Fields.{Block}
use Rattle.lock_db.specs.declared.name.LockName.{LockName}
use Rattle.lock_db.specs.declared.name.LockName.TheVariants.{S}
use Rattle.plain_cat.specs.declared.ids.Fid.{Fid}
use Rattle.plain_cat.specs.declared.mode.Mode.{Mode}
use Rattle.plain_cat.specs.declared.command.Cmd.{Cmd}
use Rattle.plain_cat.specs.declared.command.Cmd.TheVariants as cmd
use Rattle.plain_cat.specs.declared.reply.Refusal.TheVariants as refusal
use Rattle.vol_parts.specs.declared.geometry.Geometry.{Geometry}
use Rattle.vol_spell.specs.Reading.{header_place}
use Rattle.op_law.specs.declared.need.Need.TheVariants as need
use Rattle.op_law.specs.declared.seen.Seen.{Seen}
use Rattle.op_law.specs.Events.{Events, Take, Look, Space, space_of, following}
use Rattle.op_law.specs.Rows.{refuses, is_number, through_header}
use Rattle.op_law.specs.Entering.{create_events, mkdir_events}
use Rattle.op_law.specs.Sizes.{extend_events}
use Rattle.op_law.specs.Needs.{events_of, IsNext}
use Rattle.op_law.specs.Going.{with_block}
use Rattle.op_law.specs.Knows.{clusters_wanted, takes_space, wants_header}
use Rattle.core_state.specs.Searches.{numbered_by}

-- what is wanted is told by the geometry and the blocks that were seen
pub wants_alike : (x : Cmd) (seen other : Seen) → seen.geometry ≡ other.geometry → seen.blocks ≡ other.blocks → numbered_by x seen ≡ numbered_by x other
wants_alike (cmd.Extend file k) seen other geometry blocks = λ i. wants_header (geometry i) (clusters_wanted (geometry i).cluster (cmd.Extend file k)) (blocks i)
wants_alike x seen other geometry blocks = refl

header_still : (g : Geometry) (k : ℕ) (bs : List (ℕ × Block)) (y : ℕ × Block) → 0 < length bs → wants_header g k (bs ++ y ∷ []) ≡ wants_header g k bs
header_still g k [] y some = absurd (omega arith)
header_still g k (b ∷ bs) y some = refl

-- one block more tells nothing new of it
pub wants_still : (x : Cmd) (seen : Seen) (lbn : ℕ) (b : Block) → 0 < length seen.blocks → numbered_by x (with_block lbn b seen) ≡ numbered_by x seen
wants_still (cmd.Extend file k) seen lbn b some = header_still seen.geometry (clusters_wanted seen.geometry.cluster (cmd.Extend file k)) seen.blocks (lbn, b) some
wants_still x seen lbn b some = refl

-- ---- the first look

-- a command that goes through a header looks at it first
header_first : (g : Geometry) (file : Fid) (mode : Mode) (next : Block → Events) (locks : List (LockName × Mode)) (blocks : List (ℕ × Block)) (space : Space) (k : ℕ) (b : Bool) → following (through_header g file mode next) locks blocks space ≡ need.Space k b
    → 0 < length blocks
header_first g file mode next locks blocks space k b e = by_test (is_number g file) e where
  by_locks : (locks : List (LockName × Mode)) (blocks : List (ℕ × Block)) → following (Take (S file.num) mode (Look (S file.num) (header_place g file.num) next)) locks blocks space ≡ need.Space k b → 0 < length blocks
  by_locks [] blocks e = absurd (let f : need.Lock (S file.num) mode ≡ need.Space k b = e in cc)
  by_locks (l ∷ locks) [] e = absurd (let f : need.Block (S file.num) (header_place g file.num) ≡ need.Space k b = e in cc)
  by_locks (l ∷ locks) (y ∷ blocks) e = omega arith

  by_test : (t : Bool) → following (cond t (Take (S file.num) mode (Look (S file.num) (header_place g file.num) next)) (refuses refusal.NoSuchFile)) locks blocks space ≡ need.Space k b → 0 < length blocks
  by_test true e = by_locks locks blocks e
  by_test false e = absurd (cc)

-- space is searched for behind that
pub search_behind : (x : Cmd) (seen : Seen) (k : ℕ) (b : Bool) → takes_space x ≡ true → IsNext x seen (need.Space k b) → 0 < length seen.blocks
unfolding events_of create_events mkdir_events extend_events
search_behind (cmd.Create reg dir name ver blocks owner) seen k b takes is = header_first seen.geometry dir _ _ seen.locks seen.blocks (space_of seen) k b is
search_behind (cmd.MkDir reg dir name owner) seen k b takes is = header_first seen.geometry dir _ _ seen.locks seen.blocks (space_of seen) k b is
search_behind (cmd.Extend file blocks) seen k b takes is = header_first seen.geometry file _ _ seen.locks seen.blocks (space_of seen) k b is
search_behind x seen k b takes is = absurd (let f : false ≡ true = takes in cc)
