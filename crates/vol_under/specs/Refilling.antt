-- The bitmap writes of the space rule: what is free goes to a node's stock, or what is of the stock becomes free.
use Rattle.std.specs.Prelude.{◌≡◌, ◌<◌, ◌/◌, ◌%◌, ◌⊎◌, ◌↔◌, ◌++◌, ◌+◌, ℕ, true, false, List, Some, slice_get}
use Rattle.base_words.specs.Fields.{Block, IsWholeBlock}
use Rattle.fx_bitmap.specs.Bits.{bit_at}
use Rattle.plain_cat.specs.declared.cat.Cat.{Cat}
use Rattle.base_words.specs.Lists.{Has, Once, Parts}
use Rattle.vol_spell.specs.Owners.{Owners, Things, Outs}
use Rattle.vol_parts.specs.declared.geometry.Geometry.{Geometry}
use Rattle.vol_parts.specs.declared.geometry.Part.TheVariants.{IndexBitmap, Storage}
use Rattle.vol_parts.specs.Parts.{part_of}
use Rattle.vol_spell.specs.Reading.{total_of, header_block}
use Rattle.vol_spell.specs.Spelling.{IsBlank, Spells}
use Rattle.vol_under.specs.Keeping.{Refills}

-- these clusters have their bits in block k of the storage bitmap
abbrev pub LieIn : Geometry → ℕ → List ℕ → Type 0
LieIn g k qs = (q : ℕ) → Has qs q → (q < total_of g) × (q / 4096 ≡ k)

-- In b, block k of the storage bitmap, the bits of these clusters are clear, which were set in the old block; all others are as
-- they were.
pub record AreTaken (g : Geometry) (k : ℕ) (qs : List ℕ) (old b : Block) : Type 0 where
  pub whole : IsWholeBlock b
  pub once : Once qs
  pub inside : LieIn g k qs
  pub free : (q : ℕ) → Has qs q → bit_at old (q % 4096) ≡ true
  pub bits : (q : ℕ) → q < total_of g → q / 4096 ≡ k → (bit_at b (q % 4096) ≡ true) ↔ ((bit_at old (q % 4096) ≡ true) × (Has qs q → ⊥))

-- In b the bits of these clusters are set; all others are as they were.
pub record AreGiven (g : Geometry) (k : ℕ) (qs : List ℕ) (old b : Block) : Type 0 where
  pub whole : IsWholeBlock b
  pub inside : LieIn g k qs
  pub bits : (q : ℕ) → q < total_of g → q / 4096 ≡ k → (bit_at b (q % 4096) ≡ true) ↔ ((bit_at old (q % 4096) ≡ true) ⊎ Has qs q)

-- The same of file numbers, by their places: in the index-file bitmap a set bit says that a number is in use.
pub record AreNumbersTaken (g : Geometry) (ps : List ℕ) (old b : Block) : Type 0 where
  pub whole : IsWholeBlock b
  pub once : Once ps
  pub inside : (i : ℕ) → Has ps i → i < g.files
  pub free : (i : ℕ) → Has ps i → bit_at old i ≡ false
  pub bits : (i : ℕ) → i < g.files → (bit_at b i ≡ false) ↔ ((bit_at old i ≡ false) × (Has ps i → ⊥))

pub record AreNumbersGiven (g : Geometry) (ps : List ℕ) (old b : Block) : Type 0 where
  pub whole : IsWholeBlock b
  pub bits : (i : ℕ) → i < g.files → (bit_at b i ≡ false) ↔ ((bit_at old i ≡ false) ⊎ Has ps i)

-- clusters go to the stock
abbrev pub TakesClusters : Type 0
TakesClusters = (g : Geometry) (n : ℕ) (took stock : Things) (k l : ℕ) (qs : List ℕ) (old b : Block) (base : List Block) (own : Owners) (c : Cat) → Spells g base own c → Outs n own took stock
    → part_of g l ≡ Some (Storage k) → slice_get base l ≡ Some old → AreTaken g k qs old b
    → Refills g n took (record stock { clusters = stock.clusters ++ qs }) l b base own c

-- clusters of the stock become free, and the rest stays
abbrev pub GivesClusters : Type 0
GivesClusters = (g : Geometry) (n : ℕ) (took stock : Things) (k l : ℕ) (qs rest : List ℕ) (old b : Block) (base : List Block) (own : Owners) (c : Cat) → Spells g base own c → Outs n own took stock
    → part_of g l ≡ Some (Storage k) → slice_get base l ≡ Some old → Parts stock.clusters qs rest → Once rest → AreGiven g k qs old b
    → Refills g n took (record stock { clusters = rest }) l b base own c

-- file numbers go to the stock
abbrev pub TakesNumbers : Type 0
TakesNumbers = (g : Geometry) (n : ℕ) (took stock : Things) (l : ℕ) (ps : List ℕ) (old b : Block) (base : List Block) (own : Owners) (c : Cat) → Spells g base own c → Outs n own took stock
    → part_of g l ≡ Some IndexBitmap → slice_get base l ≡ Some old → AreNumbersTaken g ps old b
    → Refills g n took (record stock { numbers = stock.numbers ++ ps }) l b base own c

-- the header slots of these file numbers are free
abbrev pub HaveBlankSlots : Geometry → List Block → List ℕ → Type 0
HaveBlankSlots g bs ps = (i : ℕ) → Has ps i → IsBlank (header_block g bs (i + 1))

-- file numbers of the stock become free, whose slots are free, and the rest stays
abbrev pub GivesNumbers : Type 0
GivesNumbers = (g : Geometry) (n : ℕ) (took stock : Things) (l : ℕ) (ps rest : List ℕ) (old b : Block) (base : List Block) (own : Owners) (c : Cat) → Spells g base own c → Outs n own took stock
    → part_of g l ≡ Some IndexBitmap → slice_get base l ≡ Some old → Parts stock.numbers ps rest → Once rest → AreNumbersGiven g ps old b → HaveBlankSlots g base ps
    → Refills g n took (record stock { numbers = rest }) l b base own c
