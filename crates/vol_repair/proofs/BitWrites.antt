-- What a write to the place of a bit leaves.
use Rattle.std.proofs.Common.{◌≡◌, ◌≢◌, ◌∙◌, ◌<◌, ◌+◌, ◌-◌, ◌*◌, ◌/◌, ◌%◌, ℕ, List, [], length, slice_set, refl, sym, ap, subst, inr, arith, length-set}
use Rattle.std.proofs.lemmas.List.{get_or-set_other}
use Rattle.base_words.specs.Fields.{Block, IsWholeBlock}
use Rattle.fx_home.specs.declared.home.Home.{Home}
use Rattle.fx_home.specs.Homes.{IsWithinLimits}
use Rattle.fx_bitmap.specs.Bits.{bit_at}
use Rattle.vol_parts.specs.Volumes.{volume, block_at, bitmap_lbn, is_free_cluster, is_used_number}
use Rattle.vol_repair.specs.Touched.{IsBitPlace, IsTouched, IsGround, IsMadeIn}
use Rattle.vol_repair.specs.Laws.{TouchingIsEasy}
use Rattle.vol_repair.proofs.Taken.{control_stays}

-- nothing is written
pub made_none : (R : ℕ → Type 0) (bs : List Block) → IsMadeIn R bs bs
made_none R bs = record { count = refl; others = λ l no. refl }

-- and one block more, at such a place
pub made_more : (R : ℕ → Type 0) (old now : List Block) (l : ℕ) (b : Block) → R l → IsMadeIn R old now → IsMadeIn R old (slice_set now l b)
made_more R old now l b here made = record {
  count = length-set now l b ∙ made.count;
  others = λ m no. get_or-set_other now l m b [] (λ e. no (subst R (sym e) here)) ∙ made.others m no;
}

-- a write to the place of a bit
module _ (easy : TouchingIsEasy) (home : Home) (first now : List Block) (l : ℕ) (b : Block) (within : IsWithinLimits home) (ground : IsGround home first now) (here : IsBitPlace (volume home first) l) where
  pub place_on : l < length now
  place_on =
      let on = easy.on home first l within ground.system (inr (inr here)) in
      let count = ground.freed.freed.count in
      omega (arith, on, count)

  pub place_touched : IsTouched home first (slice_set now l b)
  place_touched = easy.touch home first now l b within ground.system ground.touched (inr (inr here))

  pub place_ground : IsWholeBlock b → IsGround home first (slice_set now l b)
  place_ground whole = easy.ground home first now l b within ground (inr (inr here)) whole

  -- the other bits stay
  pub numbers_stay : l ≢ 4 * home.cluster → (n : ℕ) → is_used_number (volume home (slice_set now l b)) n ≡ is_used_number (volume home now) n
  unfolding is_used_number
  numbers_stay ne n = ap (λ (x : Block). bit_at x (n - 1)) (get_or-set_other now l (4 * home.cluster) b [] (λ e. ne (sym e)))

  pub clusters_stay : IsWholeBlock b → (q : ℕ) → l ≢ bitmap_lbn (volume home first) + 1 + q / 4096 → is_free_cluster (volume home (slice_set now l b)) q ≡ is_free_cluster (volume home now) q
  unfolding is_free_cluster
  clusters_stay whole q ne =
      let after = control_stays home first (slice_set now l b) within ground.system (place_ground whole).freed.freed in
      let before = control_stays home first now within ground.system ground.freed.freed in
      ap (λ k. bit_at (block_at (volume home (slice_set now l b)) (k + 1 + q / 4096)) (q % 4096)) after
      ∙ (ap (λ (x : Block). bit_at x (q % 4096)) (get_or-set_other now l (bitmap_lbn (volume home first) + 1 + q / 4096) b [] (λ e. ne (sym e)))
      ∙ ap (λ k. bit_at (block_at (volume home now) (k + 1 + q / 4096)) (q % 4096)) (sym before))
