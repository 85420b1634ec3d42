-- The laws of the search for free space.
use Rattle.std.specs.Prelude.{◌≡◌, ◌≤◌, ◌<◌, ◌-◌, ◌++◌, ◌⊎◌, ℕ, zero, suc, Bool, true, false, List, [], ◌∷◌, Option, Some, None, IfSome, is_some, length, map, slice_get}
use Rattle.std.specs.List.{zip}
use Rattle.base_words.specs.Fields.{Block}
use Rattle.lock_db.specs.declared.name.LockName.TheVariants.{V}
use Rattle.plain_cat.specs.declared.history.Stage.TheVariants as stage
use Rattle.plain_cat.specs.declared.reply.Refusal.{Refusal}
use Rattle.plain_cat.specs.declared.reply.Refusal.TheVariants.{IndexFull, DeviceFull}
use Rattle.plain_cat.specs.declared.cat.Cat.{Cat}
use Rattle.plain_rules.specs.Lookups.{free_clusters, is_free_number, has_free_number}
use Rattle.plain_rules.specs.Answers.{IsPick}
use Rattle.base_words.specs.Lists.{Has, Once, StandsIn}
use Rattle.vol_spell.specs.Owners.{Owners, Things, nothing, Outs}
use Rattle.vol_parts.specs.declared.geometry.Geometry.{Geometry}
use Rattle.vol_parts.specs.declared.geometry.Part.TheVariants.{IndexBitmap, Storage}
use Rattle.vol_parts.specs.Parts.{IsGeometry}
use Rattle.vol_spell.specs.Places.{place_of, IsPart}
use Rattle.vol_spell.specs.Spelling.{Spells}
use Rattle.vol_under.specs.Guards.{Lock, guard_of}
use Rattle.vol_under.specs.Keeping.{Refills, IsBitmap}
use Rattle.vol_under.specs.Refilling.{AreTaken, AreNumbersTaken}
use Rattle.op_law.specs.declared.need.PlanWrite.{PlanWrite}
use Rattle.op_law.specs.Fits.{things}
use Rattle.op_law.specs.Knows.{Wanted, is_short, is_new_number}
use Rattle.op_law.specs.Writing.{Held, holding, empty_handed}
use Rattle.core_space.specs.Searching.{More, Short, Enough, places, found}

-- ---- the looks

-- the blocks that were looked at, each with its LBN
abbrev pub looked : Geometry → ℕ → Bool → List Block → List (ℕ × Block)
looked g clusters number bs = zip (places g clusters number) bs

-- Each that it may look at is a block of a bitmap inside the volume, and V guards it.
abbrev pub PlacesLie : Type 0
PlacesLie = (g : Geometry) (clusters : ℕ) (number : Bool) (l : ℕ) (base : List Block) (own : Owners) (c : Cat) → Has (places g clusters number) l → Spells g base own c → (l < length base) × IsBitmap g l × (guard_of g own l ≡ Some (Lock V))

-- One more look comes behind the others.
abbrev pub LookedGrows : Type 0
LookedGrows = (g : Geometry) (clusters : ℕ) (number : Bool) (bs : List Block) (lbn : ℕ) (b : Block) → slice_get (places g clusters number) (length bs) ≡ Some lbn → looked g clusters number (bs ++ b ∷ []) ≡ looked g clusters number bs ++ (lbn, b) ∷ []

-- A search that has looked at all that it may look at is over.
abbrev pub SearchEnds : Type 0
SearchEnds = (g : Geometry) (clusters : ℕ) (number : Bool) (bs : List Block) → length (places g clusters number) ≤ length bs → found g clusters number bs ≡ More → ⊥

-- ---- the writes

abbrev pub out_of : Option PlanWrite → Held
out_of None = empty_handed
out_of (Some w) = holding w.clusters w.number

-- what is outside after the first k of these writes
abbrev pub out_after : List PlanWrite → ℕ → Held
out_after ws zero = empty_handed
out_after ws (suc k) = out_of (slice_get ws k)

-- From being this outside, w takes a number of the index-file bitmap, of which this was the block.
pub record TakesNumber (g : Geometry) (out : Held) (old : Block) (w : PlanWrite) : Type 0 where
  pub taken : ℕ
  pub place : w.lbn ≡ place_of g IndexBitmap
  pub free : AreNumbersTaken g ((taken - 1) ∷ []) old w.block
  pub none : out.number ≡ None
  pub number : w.number ≡ Some taken
  pub clusters : w.clusters ≡ out.clusters

-- From being this outside, w takes clusters of a block of the storage bitmap, of which this was the block.
pub record TakesClustersOf (g : Geometry) (out : Held) (old : Block) (w : PlanWrite) : Type 0 where
  pub part : ℕ
  pub taken : List ℕ
  pub inside : IsPart g (Storage part)
  pub place : w.lbn ≡ place_of g (Storage part)
  pub free : AreTaken g part taken old w.block
  pub number : w.number ≡ out.number
  pub clusters : w.clusters ≡ out.clusters ++ taken

-- A write of a search: under V, to a block that was looked at, it takes a number or clusters.
pub record IsTaking (g : Geometry) (seen : List (ℕ × Block)) (out : Held) (w : PlanWrite) : Type 0 where
  pub lock : w.lock ≡ V
  pub stage : w.stage ≡ stage.Nothing
  pub old : Block
  pub among : Has seen (w.lbn, old)
  pub takes : TakesNumber g out old w ⊎ TakesClustersOf g out old w

-- Each write of a search is one.
abbrev pub WritesTake : Type 0
WritesTake = (g : Geometry) (clusters : ℕ) (number : Bool) (bs : List Block) (ws : List PlanWrite) (k : ℕ) (w : PlanWrite) → IsGeometry g → found g clusters number bs ≡ Enough ws → slice_get ws k ≡ Some w
    → IsTaking g (looked g clusters number bs) (out_after ws k) w

-- On all blocks in which the block stands that was looked at, such a write is one of a bitmap, which takes what is free to the
-- stock of a node.
abbrev pub TakingsRefill : Type 0
TakingsRefill = (g : Geometry) (seen : List (ℕ × Block)) (out : Held) (w : PlanWrite) (t : IsTaking g seen out w) (n : ℕ) (took : Things) (base : List Block) (own : Owners) (c : Cat) → Spells g base own c → Outs n own took (things out.clusters out.number)
    → slice_get base w.lbn ≡ Some t.old → IsBitmap g w.lbn × Refills g n took (things w.clusters w.number) w.lbn w.block base own c

-- No two of them are to the same block.
abbrev pub WritesApart : Type 0
WritesApart = (g : Geometry) (clusters : ℕ) (number : Bool) (bs : List Block) (ws : List PlanWrite) (base : List Block) (own : Owners) (c : Cat) → found g clusters number bs ≡ Enough ws → Spells g base own c → Once (map (λ w. w.lbn) ws)

-- ---- what was taken

-- as many clusters as were wanted, each once, and a number where one was wanted
pub record IsWanted (wanted : ℕ) (numbered : Bool) (out : Held) : Type 0 where
  pub clusters : length out.clusters ≡ wanted
  pub once : Once out.clusters
  pub number : is_some out.number ≡ numbered

abbrev pub TakesAll : Type 0
TakesAll = (g : Geometry) (clusters : ℕ) (number : Bool) (bs : List Block) (ws : List PlanWrite) → found g clusters number bs ≡ Enough ws → IsWanted clusters number (out_after ws (length ws))

-- The number is free by the catalogue of all blocks in which those stand that were looked at, and may be taken.
abbrev pub NumberIsFree : Type 0
NumberIsFree = (g : Geometry) (clusters : ℕ) (number : Bool) (bs : List Block) (ws : List PlanWrite) (base : List Block) (own : Owners) (c : Cat) → found g clusters number bs ≡ Enough ws
    → Spells g base own c → StandsIn base (looked g clusters number bs) → IfSome (out_after ws (length ws)).number (λ n. IsPick c (Some n))

-- And it is above those of the system files, where none of these is free.
abbrev pub NumberIsNew : Type 0
NumberIsNew = (g : Geometry) (clusters : ℕ) (number : Bool) (bs : List Block) (ws : List PlanWrite) (base : List Block) (own : Owners) (c : Cat) → found g clusters number bs ≡ Enough ws
    → Spells g base own c → StandsIn base (looked g clusters number bs) → ((m : ℕ) → 1 ≤ m → m ≤ 11 → is_free_number c m ≡ false) → is_new_number (out_after ws (length ws)).number ≡ true

-- ---- shortage

-- there is no number to take, or else the clusters that are free are too few
abbrev pub IsTooLittle : ℕ → Bool → Cat → Refusal → Type 0
IsTooLittle clusters number c IndexFull = (number ≡ true) × (has_free_number c ≡ false)
IsTooLittle clusters number c DeviceFull = (number ≡ true → has_free_number c ≡ true) × (free_clusters c < clusters)
IsTooLittle clusters number c other = ⊥

-- A search that was refused was refused for its reason, where nothing is outside at any node.
abbrev pub ShortageIsExact : Type 0
ShortageIsExact = (g : Geometry) (clusters : ℕ) (number : Bool) (bs : List Block) (r : Refusal) (base : List Block) (own : Owners) (c : Cat) → found g clusters number bs ≡ Short r
    → Spells g base own c → ((m : ℕ) → Outs m own nothing nothing) → StandsIn base (looked g clusters number bs) → IsTooLittle clusters number c r

-- A command for which it was made was short of space.
abbrev pub CommandIsShort : Type 0
CommandIsShort = (c : Cat) (k : Wanted) (r : Refusal) → IsTooLittle k.clusters k.number c r → is_short c k (Some r) ≡ true
