-- The answer of a search.
use Rattle.std.specs.Prelude.{◌≡◌, ℕ, Bool, List, Some, length, slice_get, slice_index_or}
use Rattle.base_words.specs.Fields.{Block}
pub use Rattle.base_words.specs.Fields.{blocks_alone}
use Rattle.vol_parts.specs.declared.geometry.Geometry.{Geometry}
use Rattle.core_space.specs.declared.outcome.Search.{Search}
use Rattle.core_space.specs.declared.outcome.Search.TheVariants as search
use Rattle.core_space.specs.Searching.{Found, More, Short, Enough, places, found}

-- with the LBN of the next block
abbrev pub answered : ℕ → Found → Search
answered next More = search.Look next
answered next (Short r) = search.Short r
answered next (Enough ws) = search.Take ws

-- by the blocks that were looked at so far
abbrev pub answer : Geometry → ℕ → Bool → List Block → Search
answer g clusters number bs = answered (slice_index_or (places g clusters number) (length bs) 0) (found g clusters number bs)

-- The block that is looked at next is the first of those that the search may look at that it has not looked at.
abbrev pub LooksInOrder : Type 0
LooksInOrder = (g : Geometry) (clusters : ℕ) (number : Bool) (bs : List Block) (lbn : ℕ) → answer g clusters number bs ≡ search.Look lbn → slice_get (places g clusters number) (length bs) ≡ Some lbn
