-- The numbers of header slots of files, as flags and as bits.
use Rattle.std.proofs.Common.{◌≡◌, ◌∙◌, ◌≤◌, ◌<◌, ◌+◌, ◌-◌, ℕ, Bool, false, List, Option, Ok, length, map, get_or, sym, ap, arith}
use Rattle.std.specs.Prelude.{slice_set}
use Rattle.std.specs.Option.{unwrap_or}
use Rattle.std.specs.List.{range_with_len}
use Rattle.std.proofs.lemmas.List.{length-map}
use Rattle.std.proofs.lemmas.List.FromFn.{length-range_with_len}
use Rattle.std.proofs.lemmas.Option.{unwrap_or-slice_get}
use Rattle.base_words.specs.Fields.{Block, IsWholeBlock}
use Rattle.fx_home.specs.declared.home.Home.{Home}
use Rattle.fx_home.specs.Homes.{home_read}
use Rattle.fx_bitmap.specs.Bits.{bit_at}
use Rattle.plain_cat.specs.declared.cat.Cat.{Cat}
use Rattle.vol_parts.specs.declared.geometry.Geometry.{Geometry}
use Rattle.vol_parts.specs.declared.geometry.Part.TheVariants.{IndexBitmap}
use Rattle.vol_parts.specs.Volumes.{volume, numbers, is_in_slots}
use Rattle.vol_parts.specs.Findings.{home_at}
use Rattle.vol_spell.specs.Places.{place_of}
use Rattle.vol_spell.proofs.Picking.{get_along}
use Rattle.vol_mends.specs.Told.{IsTold, LeadsTo}
use Rattle.vol_mends.specs.Clean.{IsClean}
use Rattle.vol_mends.specs.Bits.{AreFileBits, numbers_left}
use Rattle.vol_mends.proofs.Bitmaps.{numbers_are_set}
use Rattle.vol_mends.proofs.Seeing.{volume_is_seen}
use Rattle.vol_rebuild.specs.Space.{AreFlagged}
use Rattle.vol_rebuild.specs.Steps.{AreNumbersSet}

-- a flag for each number of a range
pub flag_along : (p : ℕ → Bool) (files n : ℕ) → 1 ≤ n → n ≤ files → get_or (map p (range_with_len 1 files)) (n - 1) false ≡ p n
flag_along p files n from to =
    let e : 1 + (n - 1) ≡ n = omega (arith, from) in
    sym (unwrap_or-slice_get (map p (range_with_len 1 files)) (n - 1) false)
    ∙ (ap (λ (o : Option Bool). unwrap_or o false) (get_along p 1 files (n - 1) (omega (arith, from, to))) ∙ ap p e)

flag_count : (p : ℕ → Bool) (files : ℕ) → length (map p (range_with_len 1 files)) ≡ files
flag_count p files = length-map (range_with_len 1 files) p ∙ length-range_with_len 1 files

pub flagged_of : (g : Geometry) (bs : List Block) (c : Cat) (home : Home) (flags : List Bool) → IsTold g bs c → home_read (home_at bs) ≡ Ok home
    → flags ≡ map (is_in_slots (volume home bs)) (numbers (volume home bs)) → AreFlagged g bs flags
flagged_of g bs c home flags told read seen = record {
  home = home;
  read = read;
  all = ap length seen ∙ (flag_count (is_in_slots (volume home bs)) home.files ∙ files);
  each = λ n is.
      let to = is.to in
      let same = files in
      ap (λ (fs : List Bool). get_or fs (n - 1) false) seen ∙ flag_along (is_in_slots (volume home bs)) home.files n is.from (omega (arith, to, same));
} where
  files : home.files ≡ g.files
  files = ap (λ (x : Geometry). x.files) (volume_is_seen g home bs c told read).geometry

module _ (g : Geometry) (bs : List Block) (c : Cat) (flags : List Bool) (b : Block) (told : IsTold g bs c) (clean : IsClean g bs) (whole : IsWholeBlock b)
    (are : AreFlagged g bs flags) (bits : (i : ℕ) → i < length flags → bit_at b i ≡ get_or flags i false) where
  file_bits : AreFileBits g bs c are.home b
  file_bits = record {
    told = told;
    clean = clean;
    read = are.read;
    whole = whole;
    bits = λ n is.
        let from = is.from in
        let to = is.to in
        let count = are.all in
        bits (n - 1) (omega (arith, from, to, count)) ∙ are.each n is;
  }

  pub index_leads : LeadsTo g bs c (numbers_left c) (slice_set bs (place_of g IndexBitmap) b)
  index_leads = numbers_are_set.leads g bs c are.home b file_bits

  pub index_set : AreNumbersSet g bs (slice_set bs (place_of g IndexBitmap) b) c
  index_set = record { told = index_leads.told; singles = numbers_are_set.singles g bs c are.home b file_bits; clean = numbers_are_set.clean g bs c are.home b file_bits }
