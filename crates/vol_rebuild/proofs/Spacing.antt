-- The storage bitmap, block by block.
use Rattle.std.proofs.Common.{◌≡◌, ◌==◌, ◌≤◌, ◌<◌, ◌+◌, ◌/◌, ◌%◌, ◌∙◌, ◌⊎◌, inl, inr, ℕ, not, List, Ok, length, sym, ap, subst, arith}
use Rattle.std.specs.Prelude.{slice_index, slice_set, Result, OnOk}
use Rattle.std.proofs.lemmas.Result.{on_ok_weaker}
use Rattle.std.proofs.lemmas.Bool.{cases_lt}
use Rattle.base_words.specs.Fields.{Block, IsWholeBlock}
use Rattle.fx_home.specs.declared.home.Home.{Home}
use Rattle.fx_home.specs.Homes.{home_read}
use Rattle.fx_bitmap.specs.Bits.{bit_at}
use Rattle.plain_cat.specs.declared.cat.Cat.{Cat}
use Rattle.vol_parts.specs.declared.geometry.Geometry.{Geometry}
use Rattle.vol_parts.specs.declared.geometry.Part.TheVariants.{Storage}
use Rattle.vol_parts.specs.Parts.{storage_blocks}
use Rattle.vol_parts.specs.Volumes.{volume, total, is_free_cluster}
use Rattle.vol_parts.specs.Findings.{home_at}
use Rattle.vol_faults.specs.Counts.{AreCounts}
use Rattle.vol_spell.specs.Reading.{total_of}
use Rattle.vol_spell.specs.Places.{place_of}
use Rattle.vol_mends.specs.Told.{IsTold, LeadsTo}
use Rattle.vol_mends.specs.Bits.{AreSpaceBits, SpaceIsSet, numbers_left}
use Rattle.vol_mends.proofs.ClusterBits.{clusters_are_set}
use Rattle.vol_mends.proofs.Seeing.{volume_is_seen}
use Rattle.vol_rebuild.specs.Space.{IsCounted, IsSpaceSet, IsSpaceTidy}
use Rattle.vol_rebuild.specs.Steps.{AreNumbersSet, IsTidy}
use Rattle.vol_rebuild.proofs.Setting.{none_counted}

-- what is counted
pub counted_of : (g : Geometry) (home : Home) (counts : List ℕ) (bs : List Block) (c : Cat) → IsTold g bs c → home_read (home_at bs) ≡ Ok home → AreCounts (volume home bs) counts → IsCounted g home counts bs c
counted_of g home counts bs c t read k =
    let all : total (volume home bs) ≡ total_of g = ap total_of (volume_is_seen g home bs c t read).geometry in
    record {
      left = c.leaked;
      told = t;
      read = read;
      all = k.all ∙ all;
      each = λ q lt. none_counted (volume home bs) counts q k (omega (arith, lt, all));
    }

module _ (g : Geometry) (home : Home) (counts : List ℕ) (bs : List Block) (c : Cat) (k : ℕ) (b : Block) (h : IsCounted g home counts bs c) (block : k < storage_blocks (total_of g)) (whole : IsWholeBlock b)
    (bits : (q : ℕ) → q < length counts → q / 4096 ≡ k → bit_at b (q % 4096) ≡ (slice_index counts q == 0)) where
  abbrev now : Cat
  now = record c { leaked = h.left }

  pub within : (q : ℕ) → q < total_of g → q < length counts
  within q lt = let all = h.all in omega (arith, lt, all)

  pub space_bits : AreSpaceBits g bs now home k b
  space_bits = record { told = h.told; read = h.read; block = block; whole = whole; bits = λ q lt e. bits q (within q lt) e ∙ h.each q lt }

  abbrev new : List Block
  new = slice_set bs (place_of g (Storage k)) b

  abbrev set : SpaceIsSet g bs now home k b new
  set = clusters_are_set.leads g bs now home k b space_bits

  pub space_within : place_of g (Storage k) < length bs
  space_within = clusters_are_set.within g bs now k h.told block

  pub space_leads : LeadsTo g bs now (record c { leaked = set.left }) new
  space_leads = set.leads

  pub space_set : IsSpaceSet g home counts bs new c k
  space_set = record {
    counted = record {
      left = set.left;
      told = set.leads.told;
      read = ap home_read set.leads.home ∙ h.read;
      all = h.all;
      each = λ q lt. h.each q lt ∙ sym (ap not (set.same q));
    };
    here = λ q lt e. set.here q e ∙ bits q (within q lt) e;
    elsewhere = set.elsewhere;
    singles = set.singles;
    clean = set.clean;
  }

-- where each block is written, nothing is leaked
pub none_leaked : (g : Geometry) (home : Home) (counts : List ℕ) (bs : List Block) (c : Cat) → IsCounted g home counts bs c
    → ((q : ℕ) → q < total_of g → is_free_cluster (volume home bs) q ≡ (slice_index counts q == 0)) → IsTold g bs (record c { leaked = 0 })
none_leaked g home counts bs c h set =
    let zero : h.left ≡ 0 = clusters_are_set.none g bs (record c { leaked = h.left }) home h.told h.read (λ q lt. set q lt ∙ h.each q lt) in
    subst (λ (n : ℕ). IsTold g bs (record c { leaked = n })) zero h.told

-- one block more is written
pub set_more : (g : Geometry) (home : Home) (counts : List ℕ) (bs new : List Block) (c : Cat) (k : ℕ)
    → ((q : ℕ) → q < total_of g → q / 4096 < k → is_free_cluster (volume home bs) q ≡ (slice_index counts q == 0)) → IsSpaceSet g home counts bs new c k
    → (q : ℕ) → q < total_of g → q / 4096 < k + 1 → is_free_cluster (volume home new) q ≡ (slice_index counts q == 0)
set_more g home counts bs new c k before s q lt to = by_place (cases_lt (q / 4096) k) where
  by_place : (q / 4096 < k) ⊎ (k ≤ q / 4096) → is_free_cluster (volume home new) q ≡ (slice_index counts q == 0)
  by_place (inl less) = s.elsewhere q (λ e. omega (arith, e, less)) ∙ before q lt less
  by_place (inr here) = s.here q lt (omega (arith, here, to))

-- a block of the storage bitmap is on the volume
pub storage_on : (g : Geometry) (home : Home) (counts : List ℕ) (bs : List Block) (c : Cat) (k : ℕ) → IsCounted g home counts bs c → k < storage_blocks (total_of g) → place_of g (Storage k) < length bs
storage_on g home counts bs c k h block = clusters_are_set.within g bs (record c { leaked = h.left }) k h.told block

-- the bits of all numbers, and then those of all clusters
pub tidied : {E : Type 0} (g : Geometry) (bs mid new : List Block) (c : Cat) (r : Result Unit E) → AreNumbersSet g bs mid c → OnOk r (IsSpaceTidy g mid new (numbers_left c)) → OnOk r (IsTidy g c bs new)
tidied g bs mid new c r set h =
    on_ok_weaker r (λ (t : IsSpaceTidy g mid new (numbers_left c)). record { told = t.told; singles = λ n is k. t.singles n is (set.singles n is k); clean = λ k. t.clean (set.clean k) }) h
