-- The stock of a node, and what it has taken by its rules for space.
use Rattle.std.specs.Prelude.{◌==◌, ◌/◌, not, ℕ, Bool, List, [], filter, drop, length, take, if◌then◌else◌}
use Rattle.std.specs.List.{list_any}
use Rattle.base_words.specs.Fields.{Block}
use Rattle.vol_spell.specs.Owners.{Things, nothing}
use Rattle.vol_parts.specs.declared.geometry.Geometry.{Geometry}
use Rattle.vol_parts.specs.declared.geometry.Part.TheVariants.{IndexBitmap, Storage}
use Rattle.vol_spell.specs.Places.{place_of}
use Rattle.vol_under.specs.UnderWay.{together}
use Rattle.op_law.specs.declared.need.PlanWrite.{PlanWrite}
use Rattle.op_law.specs.Fits.{things}
use Rattle.op_law.specs.Writing.{Held}
use Rattle.extent_cache.specs.Stock.{merged}
use Rattle.extent_cache.specs.Stock as extents
use Rattle.extent_cache.specs.Takings.{numbers_left}
use Rattle.core_space.specs.Taking.{out_after}
use Rattle.core_space.specs.declared.run.Phase.{Phase}
use Rattle.core_space.specs.declared.run.Phase.TheVariants as phase
use Rattle.core_space.specs.declared.run.SpaceRun.{SpaceRun}
use Rattle.core_space.specs.Laws.{things_of, taken_before}
use Rattle.core_state.specs.Worlds.{Stock}

-- ---- what is in a stock

-- as the rules for space see it; how much room it has is no matter to them
abbrev pub roomless : Stock → extents.Stock
roomless stock = record { clusters = stock.clusters; numbers = stock.numbers; cluster_room = 0; number_room = 0 }

-- its clusters, and its file numbers by their places
abbrev pub things_in : Stock → Things
things_in stock = things_of stock.clusters stock.numbers

-- with all that a filling has taken, which its last write says
abbrev pub filled_by : PlanWrite → Stock → Stock
filled_by w stock = record { clusters = merged w.clusters stock.clusters; numbers = merged w.numbers stock.numbers }

-- without its lowest clusters, so many, and its lowest number where one is taken
abbrev pub without_lowest : ℕ → Bool → Stock → Stock
without_lowest clusters number stock = record { clusters = drop clusters stock.clusters; numbers = numbers_left number stock.numbers }

-- a cluster has its bit in the bitmap block of this LBN
abbrev pub has_bit_at : Geometry → ℕ → ℕ → Bool
has_bit_at g lbn c = place_of g (Storage (c / 4096)) == lbn

-- What stays in it where what has its bits in the bitmap block of this LBN became free.
abbrev pub left_by : Geometry → ℕ → Stock → Stock
left_by g lbn stock = record {
  clusters = filter (λ c. not (has_bit_at g lbn c)) stock.clusters;
  numbers = if place_of g IndexBitmap == lbn then [] else stock.numbers;
}

-- ---- what the writes of its rules have taken

abbrev pub things_held : Held → Things
things_held out = things out.clusters out.number

-- the first k writes of a filling, or of the search of all free space; a give-back takes nothing
abbrev pub taken_in : Phase → List PlanWrite → ℕ → Things
taken_in phase.Fill ws k = taken_before ws k
taken_in phase.Last ws k = things_held (out_after ws k)
taken_in other ws k = nothing

-- what is taken and is not yet in the stock, nor given to the command: nothing where all writes are made
abbrev pub taken_by : Phase → List PlanWrite → ℕ → Things
taken_by p ws made = if made == length ws then nothing else taken_in p ws made

abbrev pub taken_now : SpaceRun → Things
taken_now run = taken_by run.phase run.writes run.made

-- all that a node has outside besides what its command has
abbrev pub stock_now : Stock → SpaceRun → Things
stock_now stock run = together (things_in stock) (taken_now run)

-- ---- what it has looked at

-- one of these writes is to the block of this LBN
abbrev pub rewrites : List PlanWrite → ℕ → Bool
rewrites ws lbn = list_any (λ w. w.lbn == lbn) ws

-- of these blocks, those that the writes leave as they were
abbrev pub unwritten : List PlanWrite → List (ℕ × Block) → List (ℕ × Block)
unwritten ws looked = filter (λ b. not (rewrites ws b.0)) looked

-- of the blocks that it has looked at, those that its writes so far leave
abbrev pub looked_now : SpaceRun → List (ℕ × Block)
looked_now run = unwritten (take run.made run.writes) run.looked
