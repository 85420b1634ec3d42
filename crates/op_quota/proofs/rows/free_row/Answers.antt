use Rattle.std.proofs.Common.{◌≡◌, ◌∙◌, ◌*◌, length, sym, arith}
use Rattle.std.specs.Prelude.{is_none}
use Rattle.std.proofs.lemmas.List.{length-map}
use Rattle.op_law.specs.Quotas.{row_place}
use Rattle.vol_spell.specs.Rows.{row_seen}
use Rattle.op_law.specs.Behind.{blocks_alone}
use Rattle.op_steps.proofs.Charges.{first_place, no_place}
use Rattle.op_quota.proofs.rows.free_row.Goals as goal

pub returns-then-is_free-clause-place : goal.returns-then-is_free-clause-place
unfolding row_place
returns-then-is_free-clause-place c =
    let q = c.args.quota.now in
    let len : length (blocks_alone q) ≡ length q = length-map q (λ s. s.1) in
    let t = c.loop-j-test.true in
    sym (first_place (λ j. is_none (row_seen (blocks_alone q) j)) (16 * length (blocks_alone q)) c.loop-j.j (omega arith) c.loop-j.invariant (sym c.is_free.ensures ∙ c.if-is_free.true))

pub returns-clause-place : goal.returns-clause-place
unfolding row_place
returns-clause-place c =
    let q = c.args.quota.now in
    let len : length (blocks_alone q) ≡ length q = length-map q (λ s. s.1) in
    let t = c.loop-j-test.false in
    sym (no_place (λ j. is_none (row_seen (blocks_alone q) j)) (16 * length (blocks_alone q)) (λ k lt. c.loop-j.invariant k (omega arith)))
