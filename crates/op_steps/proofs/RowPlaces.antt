-- The row of an owner among quota blocks.
use Rattle.std.proofs.Common.{◌≡◌, ◌*◌, ◌<◌, ℕ, true, false, List, Some, None, length, map, sym, ap, subst, ◌∙◌, arith, eq-eqb}
use Rattle.std.specs.Prelude.{flat_map}
use Rattle.std.specs.List.{range_with_len}
use Rattle.base_words.specs.Fields.{Block}
use Rattle.fx_quota.specs.declared.types.Row.{Row}
use Rattle.plain_cat.specs.declared.ids.Uic.{Uic}
use Rattle.base_words.specs.Lists.{Has}
use Rattle.vol_spell.proofs.Placing.{has_ranged}
use Rattle.vol_parts.specs.Volumes.{rows_in}
use Rattle.vol_spell.proofs.RowLists.{place_passes, none_passes, item_given}
use Rattle.vol_spell.proofs.RowOrder.{of_uic}
use Rattle.vol_spell.proofs.RowBlocks.{rows_numbered}
use Rattle.op_law.specs.Quotas.{row_place}
use Rattle.vol_spell.specs.Rows.{row_seen}
use Rattle.vol_spell.specs.Rows.{is_row_of}

-- where no row is found, none is the owner's
pub no_row : (owner : Uic) (qs : List Block) → row_place (is_row_of owner) qs ≡ None → Has (map (λ r. r.uic) (flat_map rows_in qs)) owner.0 → ⊥
unfolding row_place
no_row owner qs none t =
    let r = of_uic (flat_map rows_in qs) owner.0 t in
    let numbers = range_with_len 0 (16 * length qs) in
    let given = item_given (λ (r : Row). r.uic) (row_seen qs) numbers r.0 (subst (λ (rs : List Row). Has rs r.0) (rows_numbered qs) r.1) in
    let within = has_ranged 0 (16 * length qs) given.0 given.1 in
    let fails = none_passes (λ j. is_row_of owner (row_seen qs j)) (16 * length qs) given.0 none (let high = within.1 in omega arith) in
    let passes : is_row_of owner (row_seen qs given.0) ≡ true = ap (is_row_of owner) given.2 ∙ eq-eqb r.0.uic owner.0 r.2 in
    let f : true ≡ false = sym passes ∙ fails in
    cc

-- the row that is found is the owner's
pub found_row : (owner : Uic) (qs : List Block) (j : ℕ) → row_place (is_row_of owner) qs ≡ Some j → (j < 16 * length qs) × (is_row_of owner (row_seen qs j) ≡ true)
unfolding row_place
found_row owner qs j e = place_passes (λ i. is_row_of owner (row_seen qs i)) (16 * length qs) j e
