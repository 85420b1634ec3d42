-- The storage bitmap, in which the clusters of what is kept are cleared, block by block.
use Rattle.std.proofs.Common.{◌≡◌, ◌≢◌, ◌∙◌, ◌<◌, ◌≤◌, ◌+◌, ◌*◌, ◌/◌, ◌%◌, ◌⊎◌, ℕ, List, [], Some, length, slice_get, slice_set, sym, ap, subst, inl, inr, arith}
use Rattle.std.specs.Prelude.{◌==◌, ◌&&◌, not, slice_index}
use Rattle.std.proofs.lemmas.Bool.{cases_lt}
use Rattle.std.proofs.lemmas.List.{get_or-set_same}
use Rattle.std.proofs.lemmas.Option.{get_or_from_slice_get}
use Rattle.base_words.specs.Fields.{Block, IsWholeBlock}
use Rattle.fx_home.specs.declared.home.Home.{Home}
use Rattle.fx_home.specs.Homes.{IsWithinLimits}
use Rattle.fx_bitmap.specs.Bits.{bit_at}
use Rattle.vol_parts.specs.Parts.{storage_blocks}
use Rattle.vol_parts.specs.Volumes.{Volume, volume, total, block_at, bitmap_lbn, is_free_cluster}
use Rattle.vol_sound.specs.Begun.{is_in_kept}
use Rattle.vol_repair.specs.Touched.{IsBitPlace, IsTouched, IsGround}
use Rattle.vol_repair.specs.Laws.{TouchingIsEasy}
use Rattle.vol_repair.specs.BitSteps.{AreKeptCounts, AreBitsSet, IsBitTurn}
use Rattle.vol_repair.proofs.Taken.{control_stays}
use Rattle.vol_repair.proofs.BitWrites.{made_more, place_on, place_touched, place_ground, numbers_stay, clusters_stay}
use Rattle.vol_repair.proofs.BitPlaces.{bitmaps_apart, storage_place}

module _ (easy : TouchingIsEasy) (home : Home) (first old now : List Block) (counts : List ℕ) (lbn k : ℕ) (within : IsWithinLimits home) (turn : IsBitTurn home first old now counts lbn k) (block : k < storage_blocks (total (volume home now))) where
  abbrev v : Volume
  v = volume home first

  abbrev ground : IsGround home first now
  ground = turn.bits.ground

  few : k < storage_blocks (total v)
  few = subst (λ (n : ℕ). k < storage_blocks (n / home.cluster)) turn.bits.ground.freed.freed.count block

  pub storage_here : IsBitPlace v (lbn + 1 + k)
  storage_here = subst (λ (n : ℕ). IsBitPlace v (n + 1 + k)) (sym turn.control) (storage_place v within ground.system k few)

  pub storage_on : lbn + 1 + k < length now
  storage_on = place_on easy home first now (lbn + 1 + k) [] within ground storage_here

  pub storage_touched : (b : Block) → IsTouched home first (slice_set now (lbn + 1 + k) b)
  storage_touched b = place_touched easy home first now (lbn + 1 + k) b within ground storage_here

  module _ (was b : Block) (whole : IsWholeBlock b) (there : slice_get now (lbn + 1 + k) ≡ Some was)
      (bits : (q : ℕ) → q < length counts → q / 4096 ≡ k → bit_at b (q % 4096) ≡ (bit_at was (q % 4096) && (slice_index counts q == 0))) where
    abbrev new : List Block
    new = slice_set now (lbn + 1 + k) b

    ground_new : IsGround home first new
    ground_new = place_ground easy home first now (lbn + 1 + k) b within ground storage_here whole

    here_set : (q : ℕ) → q < total v → q / 4096 ≡ k → is_free_cluster (volume home new) q ≡ (is_free_cluster v q && not (is_in_kept v q))
    unfolding is_free_cluster
    here_set q lt same =
        let after = control_stays home first new within ground.system ground_new.freed.freed in
        let before = control_stays home first now within ground.system ground.freed.freed in
        let control = turn.control in
        let at : bitmap_lbn (volume home new) + 1 + q / 4096 ≡ lbn + 1 + k = omega (arith, after, control, same) in
        let old_at : lbn + 1 + k ≡ bitmap_lbn (volume home now) + 1 + q / 4096 = omega (arith, before, control, same) in
        let read : was ≡ block_at (volume home now) (lbn + 1 + k) = sym (get_or_from_slice_get now (lbn + 1 + k) was [] there) in
        let was_free : bit_at was (q % 4096) ≡ is_free_cluster v q =
        ap (λ (x : Block). bit_at x (q % 4096)) read ∙ (ap (λ l. bit_at (block_at (volume home now) l) (q % 4096)) old_at ∙ turn.bits.left q lt (omega (arith, same))) in
        let all = turn.kept.all in
        ap (λ l. bit_at (block_at (volume home new) l) (q % 4096)) at
        ∙ (ap (λ (x : Block). bit_at x (q % 4096)) (get_or-set_same now (lbn + 1 + k) b [] storage_on)
        ∙ (bits q (omega (arith, lt, all)) same
        ∙ (ap (λ t. t && (slice_index counts q == 0)) was_free ∙ ap (λ t. is_free_cluster v q && t) (turn.kept.each q lt))))

    elsewhere : (q : ℕ) → q / 4096 ≢ k → is_free_cluster (volume home new) q ≡ is_free_cluster (volume home now) q
    elsewhere q ne = let control = turn.control in clusters_stay easy home first now (lbn + 1 + k) b within ground storage_here whole q (λ e. ne (omega (arith, e, control)))

    pub next_turn : IsBitTurn home first old new counts lbn (k + 1)
    next_turn = record {
      bits = record {
        ground = ground_new;
        others = made_more (IsBitPlace v) old now (lbn + 1 + k) b storage_here turn.bits.others;
        numbers = λ n is. numbers_stay easy home first now (lbn + 1 + k) b within ground storage_here apart n ∙ turn.bits.numbers n is;
        set = λ q lt to. by_place q lt to (cases_lt (q / 4096) k);
        left = λ q lt from. elsewhere q (λ e. omega (arith, e, from)) ∙ turn.bits.left q lt (omega (arith, from));
      };
      kept = turn.kept;
      control = turn.control;
    } where
      apart : lbn + 1 + k ≢ 4 * home.cluster
      apart e = let control = turn.control in let lt = few in bitmaps_apart v within ground.system (1 + k) (omega (arith, lt)) (omega (arith, e, control))

      by_place : (q : ℕ) → q < total v → q / 4096 < k + 1 → (q / 4096 < k) ⊎ (k ≤ q / 4096) → is_free_cluster (volume home new) q ≡ (is_free_cluster v q && not (is_in_kept v q))
      by_place q lt to (inl less) = elsewhere q (λ e. omega (arith, e, less)) ∙ turn.bits.set q lt less
      by_place q lt to (inr from) = here_set q lt (omega (arith, from, to))

-- before the first block is written
pub first_turn : (home : Home) (first old now : List Block) (counts : List ℕ) (lbn : ℕ) → IsWithinLimits home → AreBitsSet home first old now 0 → AreKeptCounts (volume home first) counts
    → lbn ≡ bitmap_lbn (volume home now) → IsBitTurn home first old now counts lbn 0
first_turn home first old now counts lbn within bits kept e =
    record { bits = bits; kept = kept; control = e ∙ control_stays home first now within bits.ground.system bits.ground.freed.freed }
