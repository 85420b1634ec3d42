-- The first row that is not active, and what the rows found among quota blocks tell of the rows in order.
use Rattle.std.proofs.Common.{◌≡◌, ◌*◌, ◌%◌, ◌<◌, ◌≤◌, ℕ, true, false, List, Option, Some, None, length, map, refl, sym, ap, subst, ◌∙◌, arith}
use Rattle.std.specs.Prelude.{flat_map, is_none, nat_le}
use Rattle.std.specs.List.{range_with_len, filter_map}
use Rattle.std.proofs.lemmas.Bool.Decides.{nat_tests}
use Rattle.std.proofs.lemmas.List.FromFn.{length-range_with_len}
use Rattle.base_words.specs.Fields.{Block}
use Rattle.fx_quota.specs.declared.types.Row.{Row}
use Rattle.fx_quota.specs.Rows.{row_in}
use Rattle.plain_cat.specs.declared.ids.Uic.{Uic}
use Rattle.plain_cat.specs.declared.cat.Cat.{Cat}
use Rattle.plain_rules.specs.Lookups.{row_of}
use Rattle.base_words.specs.Lists.{Has, Once}
use Rattle.vol_spell.specs.Owners.{Owners}
use Rattle.vol_spell.specs.Spread.{blocks_at}
use Rattle.vol_spell.proofs.Placing.{ranged_has, has_ranged}
use Rattle.vol_parts.specs.declared.geometry.Geometry.{Geometry}
use Rattle.vol_parts.specs.Volumes.{rows_in}
use Rattle.vol_parts.specs.Catalogues.{quota_row, rows_sorted}
use Rattle.vol_spell.specs.Reading.{quota_places, rows_told}
use Rattle.vol_spell.specs.Spelling.{Spells}
use Rattle.op_law.specs.Quotas.{row_place}
use Rattle.vol_spell.specs.Rows.{block_with}
use Rattle.vol_spell.specs.Rows.{row_seen}
use Rattle.vol_spell.specs.Rows.{is_row_of}
use Rattle.op_steps.specs.NewRows.{IsFirstFree}
use Rattle.vol_spell.proofs.RowLists.{place_passes, none_passes, has_item}
use Rattle.vol_spell.proofs.RowNewLists.{sorted-length, given_all, given_fewer}
use Rattle.vol_spell.proofs.RowOrder.{row_of-none, row_of-sorted}
use Rattle.vol_spell.proofs.RowBlocks.{rows_numbered, row_active}
use Rattle.vol_spell.proofs.QuotaBlocks.{quota_count}
use Rattle.op_steps.proofs.RowPlaces.{no_row, found_row}

-- ---- a row that is not active

nothing_there : (o : Option Row) → is_none o ≡ true → o ≡ None
nothing_there None e = refl
nothing_there (Some r) e = absurd (let f : false ≡ true = e in cc)

-- the row that is found is not active
pub free_row : (qs : List Block) (j : ℕ) → row_place (λ r. is_none r) qs ≡ Some j → (j < 16 * length qs) × (row_seen qs j ≡ None)
unfolding row_place
free_row qs j e = let p = place_passes (λ i. is_none (row_seen qs i)) (16 * length qs) j e in (p.0, nothing_there (row_seen qs j) p.1)

-- where none is found, each is active
no_free_row : (qs : List Block) → row_place (λ r. is_none r) qs ≡ None → (j : ℕ) → j < 16 * length qs → row_seen qs j ≡ None → ⊥
unfolding row_place
no_free_row qs none j lt e =
    let fails = none_passes (λ i. is_none (row_seen qs i)) (16 * length qs) j none lt in
    let f : true ≡ false = ap is_none (sym e) ∙ fails in
    cc

-- where each is active there are as many as rows
rows_full : (qs : List Block) → row_place (λ r. is_none r) qs ≡ None → length (flat_map rows_in qs) ≡ 16 * length qs
rows_full qs none =
    let n : ℕ = 16 * length qs in
    ap length (rows_numbered qs)
    ∙ given_all (row_seen qs) (range_with_len 0 n) (λ j t. no_free_row qs none j (let w = has_ranged 0 n j t in let high = w.1 in omega arith))
    ∙ length-range_with_len 0 n

-- and else there are fewer
rows_left : (qs : List Block) (j : ℕ) → row_place (λ r. is_none r) qs ≡ Some j → length (flat_map rows_in qs) < 16 * length qs
rows_left qs j e =
    let free = free_row qs j e in
    subst (λ (rs : List Row). length rs < 16 * length qs) (sym (rows_numbered qs)) (given_fewer (row_seen qs) (16 * length qs) j free.0 free.1)

-- ---- an owner's row

-- the row that is found is its owner's among the rows in order
pub row_told : (owner : Uic) (qs : List Block) (j : ℕ) → Once (map (λ r. r.uic) (flat_map rows_in qs)) → row_place (is_row_of owner) qs ≡ Some j
    → row_of owner (rows_sorted (flat_map rows_in qs)) ≡ Some (quota_row (row_in (block_with qs j) (j % 16)))
row_told owner qs j once e =
    let found = found_row owner qs j e in
    let lt = found.0 in
    let old = row_in (block_with qs j) (j % 16) in
    let active = row_active owner (block_with qs j) (j % 16) found.1 in
    let item : Has (filter_map (row_seen qs) (range_with_len 0 (16 * length qs))) old = has_item (λ (r : Row). r.uic) (row_seen qs) (range_with_len 0 (16 * length qs)) j old (ranged_has 0 (16 * length qs) j (omega arith) (omega arith)) active.0 in
    let told : Has (flat_map rows_in qs) old = subst (λ (rs : List Row). Has rs old) (sym (rows_numbered qs)) item in
    row_of-sorted owner (flat_map rows_in qs) old once told active.1

pub row_untold : (owner : Uic) (qs : List Block) → row_place (is_row_of owner) qs ≡ None → row_of owner (rows_sorted (flat_map rows_in qs)) ≡ None
row_untold owner qs e = row_of-none owner (flat_map rows_in qs) (no_row owner qs e)

-- ---- on a volume

module _ (g : Geometry) (bs : List Block) (own : Owners) (c : Cat) (s : Spells g bs own c) where
  abbrev seen : List Block
  seen = blocks_at bs (quota_places g)

  pub owner_told : (owner : Uic) (j : ℕ) → row_place (is_row_of owner) seen ≡ Some j → row_of owner c.quota ≡ Some (quota_row (row_in (block_with seen j) (j % 16)))
  owner_told owner j e = ap (row_of owner) s.rows.quota ∙ row_told owner seen j s.rows.once e

  pub owner_untold : (owner : Uic) → row_place (is_row_of owner) seen ≡ None → row_of owner c.quota ≡ None
  owner_untold owner e = ap (row_of owner) s.rows.quota ∙ row_untold owner seen e

  count : length c.quota ≡ length (rows_told g bs)
  count = ap length s.rows.quota ∙ sorted-length (rows_told g bs)

  -- no row is free exactly where the catalogue has as many as there are
  pub quota_full : row_place (λ r. is_none r) seen ≡ None → nat_le c.rows (length c.quota) ≡ true
  quota_full e =
      let a = s.constants.rows in
      let b = count in
      let full = rows_full seen e in
      let blocks = quota_count g bs in
      let le : c.rows ≤ length c.quota = omega arith in
      grind (arith, nat_tests)

  pub quota_left : (j : ℕ) → IsFirstFree g bs j → nat_le c.rows (length c.quota) ≡ false
  quota_left j e =
      let a = s.constants.rows in
      let b = count in
      let left = rows_left seen j e in
      let blocks = quota_count g bs in
      let lt : length c.quota < c.rows = omega arith in
      grind (arith, nat_tests)
