-- The index-file bitmap, in which the numbers of what is kept are set.
use Rattle.std.proofs.Common.{◌≡◌, ◌∙◌, ◌<◌, ◌≤◌, ◌+◌, ◌-◌, ◌*◌, ◌/◌, ℕ, Bool, false, List, [], Some, length, slice_get, slice_set, sym, ap, inl, arith}
use Rattle.std.specs.Prelude.{◌||◌, slice_index_or}
use Rattle.std.proofs.lemmas.List.{get_or-set_same}
use Rattle.std.proofs.lemmas.List.FromFn.{length-map-range_with_len, get_or-map-range_with_len}
use Rattle.std.proofs.lemmas.Option.{get_or_from_slice_get}
use Rattle.base_words.specs.Fields.{Block, IsWholeBlock}
use Rattle.fx_home.specs.declared.home.Home.{Home}
use Rattle.fx_home.specs.Homes.{IsWithinLimits}
use Rattle.fx_bitmap.specs.Bits.{bit_at}
use Rattle.vol_parts.specs.Parts.{storage_blocks}
use Rattle.vol_parts.specs.Volumes.{Volume, volume, IsNumber, total, block_at, is_used_number}
use Rattle.vol_sound.specs.Sound.{is_kept}
use Rattle.vol_repair.specs.Touched.{IsBitPlace, IsTouched}
use Rattle.vol_repair.specs.Phases.{IsBeforeBits}
use Rattle.vol_repair.specs.Laws.{TouchingIsEasy}
use Rattle.vol_repair.specs.BitSteps.{AreBitsSet}
use Rattle.vol_repair.proofs.BitWrites.{made_none, made_more, place_on, place_touched, place_ground, clusters_stay}
use Rattle.vol_repair.proofs.BitPlaces.{bitmaps_apart}

module _ (easy : TouchingIsEasy) (home : Home) (first now : List Block) (kept : List Bool) (l : ℕ) (within : IsWithinLimits home) (before : IsBeforeBits home first kept now) (at : l ≡ 4 * home.cluster) where
  abbrev v : Volume
  v = volume home first

  here : IsBitPlace v l
  here = inl at

  pub index_on : l < length now
  index_on = place_on easy home first now l [] within before.ground here

  pub index_touched : (b : Block) → IsTouched home first (slice_set now l b)
  index_touched b = place_touched easy home first now l b within before.ground here

  pub flag_count : length kept ≡ home.files
  flag_count = ap length before.flags ∙ length-map-range_with_len (is_kept v) 1 home.files

  pub flags_few : length kept ≤ 4096
  flags_few = let files = within.files_high in let count = flag_count in omega (arith, files, count)

  module _ (was b : Block) (whole : IsWholeBlock b) (there : slice_get now l ≡ Some was)
      (bits : (i : ℕ) → i < length kept → bit_at b i ≡ (bit_at was i || slice_index_or kept i false)) where
    abbrev new : List Block
    new = slice_set now l b

    number_set : (n : ℕ) → IsNumber v n → is_used_number (volume home new) n ≡ (is_used_number v n || is_kept v n)
    unfolding is_used_number
    number_set n is =
        let from = is.from in
        let to : n ≤ home.files = is.to in
        let all = flag_count in
        let flag : slice_index_or kept (n - 1) false ≡ is_kept v n = ap (λ (fs : List Bool). slice_index_or fs (n - 1) false) before.flags ∙ get_or-map-range_with_len (is_kept v) 1 home.files (n - 1) n false (omega arith) (omega arith) in
        let read : block_at (volume home now) (4 * home.cluster) ≡ was = ap (block_at (volume home now)) (sym at) ∙ get_or_from_slice_get now l was [] there in
        let was_used : bit_at was (n - 1) ≡ is_used_number v n = ap (λ (x : Block). bit_at x (n - 1)) (sym read) ∙ before.numbers n is in
        ap (λ k. bit_at (block_at (volume home new) k) (n - 1)) (sym at)
        ∙ (ap (λ (x : Block). bit_at x (n - 1)) (get_or-set_same now l b [] index_on)
        ∙ (bits (n - 1) (omega (arith, from, to, all)) ∙ (ap (λ t. t || slice_index_or kept (n - 1) false) was_used ∙ ap (λ t. is_used_number v n || t) flag)))

    pub numbers_set : AreBitsSet home first now new 0
    numbers_set = record {
      ground = place_ground easy home first now l b within before.ground here whole;
      others = made_more (IsBitPlace v) now now l b here (made_none (IsBitPlace v) now);
      numbers = number_set;
      set = λ q lt to. absurd (omega (arith, to));
      left = λ q lt from. clusters_stay easy home first now l b within before.ground here whole q (λ e. bitmaps_apart v within before.ground.system (1 + q / 4096) (in_bitmap q lt) (omega (arith, e, at))) ∙ before.clusters q lt;
    } where
      in_bitmap : (q : ℕ) → q < total v → 1 + q / 4096 ≤ storage_blocks (total v)
      in_bitmap q lt = omega (arith, lt)
