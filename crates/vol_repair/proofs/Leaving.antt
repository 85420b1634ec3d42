-- What the parts of a repair that come first leave of the blocks of files that are kept, and of the home block.
use Rattle.std.proofs.Common.{◌≡◌, ◌≢◌, ◌∙◌, ◌<◌, ◌≤◌, ◌+◌, ◌-◌, ◌*◌, ◌/◌, ◌%◌, ◌⊎◌, ℕ, Bool, true, false, List, map, refl, sym, ap, subst, inl, inr, arith}
use Rattle.std.specs.Prelude.{nat_le, nat_lt}
use Rattle.std.proofs.lemmas.Bool.{and_parts, leb-true, cases_Bool}
use Rattle.base_words.specs.Fields.{Block}
use Rattle.base_words.specs.Lists.{Has}
use Rattle.fx_home.specs.declared.home.Home.{Home}
use Rattle.fx_home.specs.Homes.{IsWithinLimits}
use Rattle.fx_header.specs.Pointers.{lbns_in}
use Rattle.fx_bitmap.specs.Bits.{bit_at}
use Rattle.vol_parts.specs.Parts.{storage_blocks}
use Rattle.vol_parts.specs.Volumes.{Volume, volume, total, numbers, header_lbn, block_at, Told, told, runs, body, first_lbn, bitmap_lbn, is_free_cluster, is_used_number}
use Rattle.vol_parts.specs.Findings.{home_at}
use Rattle.vol_sound.specs.Sound.{is_kept}
use Rattle.vol_sound.specs.Freeing.{HasSystem, HasSlotsFreed, IsSameTold, is_header_place, LeavesOthers}
use Rattle.vol_sound.proofs.Cuts.{sound_parts}
use Rattle.vol_sound.proofs.Freed.{system_stays, sound_stays}
use Rattle.vol_sound.proofs.Bodies.{map_same}
use Rattle.vol_repair.specs.Touched.{places, is_remade, IsDirPlace, IsRowPlace, IsBitPlace, IsMadeIn, IsTouched}
use Rattle.vol_repair.specs.Phases.{IsAfterDirs, IsBeforeRows, IsAfterRows, IsBeforeBits}
use Rattle.vol_repair.proofs.Places.{IsKeptFile, remade_kinds, low_kept_file, kept_apart, header_in_front, in_front, in_bitmap, dir_in, row_in, bit_in, touchable_behind}

-- a file of which the same is told has the blocks that stand in its places
pub body_at : (home : Home) (first now : List Block) (n : ℕ) → told (volume home now) n ≡ told (volume home first) n → body (volume home now) n ≡ map (block_at (volume home now)) (places (volume home first) n)
unfolding body runs
body_at home first now n same = ap (λ (t : Told). map (block_at (volume home now)) (lbns_in t.runs)) same

-- and so the same ones as in other blocks where the same stand there
pub body_same : (home : Home) (first x y : List Block) (n : ℕ) → told (volume home x) n ≡ told (volume home first) n → told (volume home y) n ≡ told (volume home first) n
    → ((l : ℕ) → Has (places (volume home first) n) l → block_at (volume home y) l ≡ block_at (volume home x) l) → body (volume home y) n ≡ body (volume home x) n
body_same home first x y n a b same =
    body_at home first y n b
    ∙ map_same (block_at (volume home y)) (block_at (volume home x)) (places (volume home first) n) same
    ∙ sym (body_at home first x n a)

-- a system file is no directory that may be written, but for the two
pub not_remade : (v : Volume) (n : ℕ) → n ≤ 11 → n ≢ 4 → n ≢ 11 → is_remade v n ≡ true → ⊥
not_remade v n few a b e = elim (remade_kinds v n e) [
  | inl main ↦ a main
  | inr more ↦ elim more [
    | inl lost ↦ b lost
    | inr marked ↦ (let above = (sound_parts v n marked.0).above in omega arith)
  ]
]

module _ (home : Home) (first : List Block) (within : IsWithinLimits home) (system : HasSystem (volume home first)) where
  abbrev v : Volume
  v = volume home first

  -- what is told of a file that is kept stays where slots become free
  pub kept_told : (now : List Block) (n : ℕ) → HasSlotsFreed home first now → IsKeptFile v n → IsSameTold v (volume home now) n
  kept_told now n freed k = elim k.kind [
    | inl few ↦ system_stays home first now within system freed n k.number.from few
    | inr s ↦ sound_stays home first now within system freed n k.number s
  ]

  -- no block of a file that is kept is a header slot, but for the index file
  pub kept_behind : (n l : ℕ) → IsKeptFile v n → n ≢ 1 → Has (places v n) l → is_header_place v l ≡ false
  kept_behind n l k ne t = by_place (cases_Bool (is_header_place v l)) where
    by_place : (is_header_place v l ≡ true) ⊎ (is_header_place v l ≡ false) → is_header_place v l ≡ false
    by_place (inr other) = other
    by_place (inl slot) = absurd (ne (kept_apart home first within system n 1 l k (low_kept_file home first within system 1 (omega arith) (omega arith)) t (header_in_front home first within system l slot)))

  -- the block of the index-file bitmap is no header slot
  index_apart : is_header_place v (4 * home.cluster) ≡ false
  index_apart = by_place (cases_Bool (is_header_place v (4 * home.cluster))) where
    by_place : (is_header_place v (4 * home.cluster) ≡ true) ⊎ (is_header_place v (4 * home.cluster) ≡ false) → is_header_place v (4 * home.cluster) ≡ false
    by_place (inr other) = other
    by_place (inl slot) =
        let lo : 4 * home.cluster + 1 ≤ 4 * home.cluster = leb-true _ _ (and_parts (nat_le (header_lbn v 1) (4 * home.cluster)) (nat_lt (4 * home.cluster) (header_lbn v 1 + v.home.files)) slot).0 in
        absurd (omega arith)

  -- nor is the home block one
  pub home_apart : is_header_place v 1 ≡ false
  home_apart = by_place (cases_Bool (is_header_place v 1)) where
    by_place : (is_header_place v 1 ≡ true) ⊎ (is_header_place v 1 ≡ false) → is_header_place v 1 ≡ false
    by_place (inr other) = other
    by_place (inl slot) =
        let c = within.cluster_low in
        let lo : 4 * home.cluster + 1 ≤ 1 = leb-true _ _ (and_parts (nat_le (header_lbn v 1) 1) (nat_lt 1 (header_lbn v 1 + v.home.files)) slot).0 in
        absurd (omega arith)

  pub home_same : (now : List Block) → IsTouched home first now → home_at now ≡ home_at first
  home_same now k = k.others 1 home_apart (touchable_behind home first within system)

  -- the storage control block is in file 2
  pub control_in : Has (places v 2) (bitmap_lbn v)
  control_in = subst (λ (k : ℕ). Has (places v 2) k) at_zero (in_bitmap home first within system 0 (omega arith)) where
    at_zero : bitmap_lbn v + 0 ≡ bitmap_lbn v
    at_zero = omega arith

  -- no bits stand in the storage control block
  pub control_still : IsBitPlace v (bitmap_lbn v) → ⊥
  control_still b = elim (bit_in home first within system 2 (bitmap_lbn v) (low_kept_file home first within system 2 (omega arith) (omega arith)) control_in b) [
    | inl index ↦ (let z = index.0 in omega arith)
    | inr storage ↦ (let lo : bitmap_lbn v + 1 ≤ bitmap_lbn v = leb-true _ _ (and_parts (nat_le (bitmap_lbn v + 1) (bitmap_lbn v)) (nat_lt (bitmap_lbn v) (bitmap_lbn v + 1 + storage_blocks (total v))) storage.1).0 in omega arith)
  ]

  -- ---- one part

  -- what is made of directories leaves the blocks of other files
  pub dirs_leave : (old new : List Block) (n l : ℕ) → IsMadeIn (IsDirPlace v) old new → IsKeptFile v n → (is_remade v n ≡ true → ⊥) → Has (places v n) l → block_at (volume home new) l ≡ block_at (volume home old) l
  dirs_leave old new n l made k other t = made.others l (λ d. other (dir_in home first within system n l k t d))

  pub rows_leave : (old new : List Block) (n l : ℕ) → IsMadeIn (IsRowPlace v) old new → IsKeptFile v n → n ≢ 10 → Has (places v n) l → block_at (volume home new) l ≡ block_at (volume home old) l
  rows_leave old new n l made k ne t = made.others l (λ r. ne (row_in home first within system n l k t r))

  pub bits_leave : (old new : List Block) (n l : ℕ) → IsMadeIn (IsBitPlace v) old new → IsKeptFile v n → n ≢ 1 → n ≢ 2 → Has (places v n) l → block_at (volume home new) l ≡ block_at (volume home old) l
  bits_leave old new n l made k a b t = made.others l (λ p. elim (bit_in home first within system n l k t p) [ inl index ↦ a index.0 | inr storage ↦ b storage.0 ])

  -- the blocks of a file stay from the first blocks to where directories are made
  pub from_first : (a b : List Block) (n l : ℕ) → LeavesOthers home first a → IsMadeIn (IsDirPlace v) a b → IsKeptFile v n → n ≢ 1 → (is_remade v n ≡ true → ⊥) → Has (places v n) l → block_at (volume home b) l ≡ block_at v l
  from_first a b n l o made k ne other t = dirs_leave a b n l made k other t ∙ o.others l (kept_behind n l k ne t)

  -- the quota blocks stay there
  pub rows_before : (a b : List Block) → LeavesOthers home first a → IsAfterDirs home first a b → IsBeforeRows home first b
  rows_before a b o x = record { ground = x.ground; rows = same } where
    ten : IsKeptFile v 10
    ten = low_kept_file home first within system 10 (omega arith) (omega arith)

    same : body (volume home b) 10 ≡ body v 10
    same = body_same home first first b 10 refl (kept_told b 10 x.ground.touched.freed ten).told (λ l t.
        from_first a b 10 l o x.others ten (λ e. absurd (omega arith)) (not_remade v 10 (omega arith) (λ e. absurd (omega arith)) (λ e. absurd (omega arith))) t)

  -- and the bits stay to where rows are made
  pub bits_before : (a b c : List Block) (kept : List Bool) → LeavesOthers home first a → IsAfterDirs home first a b → IsAfterRows home first b c → kept ≡ map (is_kept v) (numbers v)
      → IsBeforeBits home first kept c
  unfolding is_free_cluster is_used_number runs
  bits_before a b c kept o x y are = record { ground = y.ground; clusters = cluster_bit; numbers = λ n is. ap (λ (u : Block). bit_at u (n - 1)) index_same; flags = are } where
    one : IsKeptFile v 1
    one = low_kept_file home first within system 1 (omega arith) (omega arith)

    two : IsKeptFile v 2
    two = low_kept_file home first within system 2 (omega arith) (omega arith)

    bitmap_there : bitmap_lbn (volume home c) ≡ bitmap_lbn v
    bitmap_there = ap (λ (t : Told). first_lbn t.runs) (kept_told c 2 y.ground.touched.freed two).told

    storage_same : (k : ℕ) → k < storage_blocks (total v) → block_at (volume home c) (bitmap_lbn v + 1 + k) ≡ block_at v (bitmap_lbn v + 1 + k)
    storage_same k lt =
        let place : bitmap_lbn v + (1 + k) ≡ bitmap_lbn v + 1 + k = omega arith in
        let t = subst (λ (j : ℕ). Has (places v 2) j) place (in_bitmap home first within system (1 + k) (omega arith)) in
        rows_leave b c 2 (bitmap_lbn v + 1 + k) y.others two (λ e. absurd (omega arith)) t
        ∙ from_first a b 2 (bitmap_lbn v + 1 + k) o x.others two (λ e. absurd (omega arith)) (not_remade v 2 (omega arith) (λ e. absurd (omega arith)) (λ e. absurd (omega arith))) t

    cluster_bit : (q : ℕ) → q < total v → is_free_cluster (volume home c) q ≡ is_free_cluster v q
    cluster_bit q lt =
        ap (λ l. bit_at (block_at (volume home c) (l + 1 + q / 4096)) (q % 4096)) bitmap_there
        ∙ ap (λ (u : Block). bit_at u (q % 4096)) (storage_same (q / 4096) (omega arith))

    index_same : block_at (volume home c) (4 * home.cluster) ≡ block_at v (4 * home.cluster)
    index_same =
        let t = in_front home first within system (4 * home.cluster) (omega arith) in
        rows_leave b c 1 (4 * home.cluster) y.others one (λ e. absurd (omega arith)) t
        ∙ dirs_leave a b 1 (4 * home.cluster) x.others one (not_remade v 1 (omega arith) (λ e. absurd (omega arith)) (λ e. absurd (omega arith))) t
        ∙ o.others (4 * home.cluster) index_apart
