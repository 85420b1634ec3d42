-- The rows of quota blocks, numbered through all of them, and what they are after the write of one.
use Rattle.std.proofs.Common.{◌≡◌, ◌≢◌, ◌+◌, ◌*◌, ◌/◌, ◌%◌, ◌^◌, ◌<◌, ◌++◌, ℕ, zero, suc, Bool, true, false, List, [], ◌∷◌, Option, Some, None, length, map, cond, slice_set, refl, sym, ap, subst, ◌∙◌, inl, inr, arith, ne_eqb, eq-eqb, get_or-set_other, length-set, lit<}
use Rattle.std.specs.Prelude.{◌==◌, flat_map, slice_index_or}
use Rattle.std.specs.Option.{option_map}
use Rattle.std.specs.List.{range_with_len, filter_map}
use Rattle.std.proofs.lemmas.Bool.Decides.{nat_tests}
use Rattle.std.proofs.lemmas.List.Elements.{filter_map-append}
use Rattle.base_words.specs.Fields.{Block, IsWholeBlock}
use Rattle.base_words.proofs.Puts.{field-lt}
use Rattle.fx_quota.specs.declared.types.Row.{Row}
use Rattle.fx_quota.specs.Rows.{flags_at, row_in, row_at, row_put, row_start}
use Rattle.fx_quota.proofs.Reading.{Fits, row_at-put}
use Rattle.plain_cat.specs.declared.ids.Uic.{Uic}
use Rattle.base_words.specs.Lists.{Has, Once}
use Rattle.base_words.proofs.Listing.{same_or_not}
use Rattle.vol_spell.proofs.Placing.{ranged_has, index-set_here}
use Rattle.vol_parts.specs.Volumes.{rows_in}
use Rattle.vol_spell.specs.Rows.{block_with, row_seen, is_row_of}
use Rattle.vol_spell.proofs.RowLists.{range_joined, filter_map-moved, filter_map-changed, given_once}
use Rattle.vol_spell.proofs.RowOrder.{row_changed}

-- the rows of all blocks, by number
rows_first : (b : Block) (qs : List Block) (a n : ℕ) → a + n < 17 → filter_map (row_at b) (range_with_len a n) ≡ filter_map (row_seen (b ∷ qs)) (range_with_len a n)
rows_first b qs a zero few = refl
rows_first b qs a (suc n) few =
    let block : a / 16 ≡ 0 = omega arith in
    let row : a % 16 ≡ a = omega arith in
    let same : row_seen (b ∷ qs) a ≡ row_at b a = ap (λ k. row_at (slice_index_or (b ∷ qs) k []) (a % 16)) block ∙ ap (row_at b) row in
    rw (same, rows_first b qs (a + 1) n (omega arith)) refl

pub rows_numbered : (qs : List Block) → flat_map rows_in qs ≡ filter_map (row_seen qs) (range_with_len 0 (16 * length qs))
unfolding rows_in
rows_numbered [] = refl
rows_numbered (b ∷ qs) =
    let long : 16 * length (b ∷ qs) ≡ 16 + 16 * length qs = omega arith in
    let h : ℕ → Option Row = row_seen (b ∷ qs) in
    let later : (j : ℕ) → h (j + 16) ≡ row_seen qs j = λ j.
    let block : (j + 16) / 16 ≡ suc (j / 16) = omega arith in
    let row : (j + 16) % 16 ≡ j % 16 = omega arith in
    ap (λ k. row_at (slice_index_or (b ∷ qs) k []) ((j + 16) % 16)) block ∙ ap (row_at (slice_index_or qs (j / 16) [])) row in
    let joined : range_with_len 0 (16 * length (b ∷ qs)) ≡ range_with_len 0 16 ++ range_with_len 16 (16 * length qs) = ap (range_with_len 0) long ∙ range_joined 0 16 (16 * length qs) in
    ap (λ rs. rs ++ flat_map rows_in qs) (rows_first b qs 0 16 (lit< tt))
    ∙ ap (λ rs. filter_map h (range_with_len 0 16) ++ rs) (rows_numbered qs ∙ sym (filter_map-moved (row_seen qs) h 16 later 0 (16 * length qs)))
    ∙ sym (ap (filter_map h) joined ∙ filter_map-append h (range_with_len 0 16) (range_with_len 16 (16 * length qs)))

-- a row that is an owner's is active
pub row_active : (owner : Uic) (b : Block) (i : ℕ) → is_row_of owner (row_at b i) ≡ true → (row_at b i ≡ Some (row_in b i)) × ((row_in b i).uic ≡ owner.0)
unfolding row_at
row_active owner b i is = by (flags_at b i % 2 == 1) refl is where
  by : (t : Bool) → (flags_at b i % 2 == 1) ≡ t → is_row_of owner (cond t (Some (row_in b i)) None) ≡ true → (cond (flags_at b i % 2 == 1) (Some (row_in b i)) None ≡ Some (row_in b i)) × ((row_in b i).uic ≡ owner.0)
  by true e h = (ap (λ c. cond c (Some (row_in b i)) None) e, grind (arith, nat_tests))
  by false e h = absurd (let f : false ≡ true = h in cc)

module _ (qs : List Block) (j : ℕ) (new : Row) (whole : IsWholeBlock (block_with qs j)) (inside : j / 16 < length qs) (fits : Fits new) where
  abbrev pub put_in : List Block
  put_in = slice_set qs (j / 16) (row_put (block_with qs j) (j % 16) new)

  flags_fit : flags_at (block_with qs j) (j % 16) < 2 ^ 32
  flags_fit = field-lt (block_with qs j) (row_start (j % 16)) 4 whole.bytes

  few : j % 16 < 16
  few = omega arith

  pub row-put_here : row_seen put_in j ≡ Some new
  row-put_here =
      ap (λ b. row_at b (j % 16)) (index-set_here qs (j / 16) (row_put (block_with qs j) (j % 16) new) inside)
      ∙ row_at-put (block_with qs j) (j % 16) (j % 16) new whole.long few flags_fit fits ∙ ap (λ t. cond t (Some new) (row_at (block_with qs j) (j % 16))) (eq-eqb (j % 16) (j % 16) refl)

  pub row-put_other : (i : ℕ) → i ≢ j → row_seen put_in i ≡ row_seen qs i
  row-put_other i ne = elim (same_or_not (i / 16) (j / 16)) [
    | inl e ↦
        let other : i % 16 ≢ j % 16 = λ f. ne (omega arith) in
        ap (λ k. row_at (slice_index_or put_in k []) (i % 16)) e ∙ ap (λ b. row_at b (i % 16)) (index-set_here qs (j / 16) (row_put (block_with qs j) (j % 16) new) inside)
        ∙ row_at-put (block_with qs j) (j % 16) (i % 16) new whole.long few flags_fit fits ∙ ap (λ t. cond t (Some new) (row_at (block_with qs j) (i % 16))) (ne_eqb (i % 16) (j % 16) other)
        ∙ ap (λ k. row_at (slice_index_or qs k []) (i % 16)) (sym e)
    | inr away ↦ ap (λ b. row_at b (i % 16)) (get_or-set_other qs (j / 16) (i / 16) (row_put (block_with qs j) (j % 16) new) [] away)
  ]

-- The owner's row changes, and no other: the rows of another owner stay, since each owner has one row.
module _ (owner : Uic) (change : Row → Row) (qs : List Block) (j : ℕ) (whole : IsWholeBlock (block_with qs j)) (within : j < 16 * length qs) (once : Once (map (λ r. r.uic) (flat_map rows_in qs)))
    (is : is_row_of owner (row_seen qs j) ≡ true) (fits : Fits (change (row_in (block_with qs j) (j % 16)))) where
  abbrev old : Row
  old = row_in (block_with qs j) (j % 16)

  abbrev numbers : List ℕ
  numbers = range_with_len 0 (16 * length qs)

  abbrev after : List Block
  after = slice_set qs (j / 16) (row_put (block_with qs j) (j % 16) (change old))

  inside : j / 16 < length qs
  inside = omega arith

  active : (row_seen qs j ≡ Some old) × (old.uic ≡ owner.0)
  active = row_active owner (block_with qs j) (j % 16) is

  once_numbered : Once (map (λ r. r.uic) (filter_map (row_seen qs) numbers))
  once_numbered = subst (λ (rs : List Row). Once (map (λ r. r.uic) rs)) (rows_numbered qs) once

  stays : (i : ℕ) → Has numbers i → i ≢ j → (o : Option Row) → row_seen qs i ≡ o → o ≡ option_map (row_changed owner change) o
  stays i t ne None e = refl
  stays i t ne (Some a) e =
      let away : a.uic ≢ owner.0 = λ same. ne (given_once (λ r. r.uic) (row_seen qs) numbers i j a old once_numbered t (ranged_has 0 (16 * length qs) j (omega arith) (omega arith)) e active.0 (same ∙ sym active.1)) in
      ap (λ b. Some (cond b (change a) a)) (sym (ne_eqb a.uic owner.0 away))

  here : row_seen after j ≡ option_map (row_changed owner change) (row_seen qs j)
  here =
      row-put_here qs j (change old) whole inside fits ∙ ap (λ b. Some (cond b (change old) old)) (sym (eq-eqb old.uic owner.0 active.1)) ∙ ap (option_map (row_changed owner change)) (sym active.0)

  each : (i : ℕ) → Has numbers i → row_seen after i ≡ option_map (row_changed owner change) (row_seen qs i)
  each i t = elim (same_or_not i j) [
    | inl e ↦ ap (row_seen after) e ∙ here ∙ ap (λ k. option_map (row_changed owner change) (row_seen qs k)) (sym e)
    | inr ne ↦ row-put_other qs j (change old) whole inside fits i ne ∙ stays i t ne (row_seen qs i) refl
  ]

  pub rows-changed : flat_map rows_in after ≡ map (row_changed owner change) (flat_map rows_in qs)
  rows-changed =
      let long : length after ≡ length qs = length-set qs (j / 16) (row_put (block_with qs j) (j % 16) (change old)) in
      rows_numbered after ∙ ap (λ n. filter_map (row_seen after) (range_with_len 0 (16 * n))) long
      ∙ filter_map-changed (row_changed owner change) (row_seen qs) (row_seen after) numbers each ∙ ap (map (row_changed owner change)) (sym (rows_numbered qs))
