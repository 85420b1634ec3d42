use Rattle.std.proofs.Common.{◌≡◌, ◌∙◌, ◌*◌, length, ap, sym, arith}
use Rattle.std.proofs.lemmas.List.{length-map}
use Rattle.op_law.specs.Quotas.{row_place}
use Rattle.vol_spell.specs.Rows.{row_seen}
use Rattle.vol_spell.specs.Rows.{is_row_of}
use Rattle.op_law.specs.Behind.{blocks_alone}
use Rattle.op_steps.proofs.Charges.{first_place, no_place}
use Rattle.op_steps.proofs.quotas.owner_row.Goals as goal

pub returns-then-is_row_of-clause-place : goal.returns-then-is_row_of-clause-place
unfolding row_place
returns-then-is_row_of-clause-place c =
    let q = c.args.quota.now in
    let len : length (blocks_alone q) ≡ length q = length-map q (λ s. s.1) in
    let t = c.loop-j-test.true in
    sym (first_place (λ j. is_row_of c.args.owner (row_seen (blocks_alone q) j)) (16 * length (blocks_alone q)) c.loop-j.j (omega arith) c.loop-j.invariant (ap (is_row_of c.args.owner) (sym c.row_seen.ensures) ∙ sym c.is_row_of.ensures ∙ c.if-is_row_of.true))

pub returns-clause-place : goal.returns-clause-place
unfolding row_place
returns-clause-place c =
    let q = c.args.quota.now in
    let len : length (blocks_alone q) ≡ length q = length-map q (λ s. s.1) in
    let t = c.loop-j-test.false in
    sym (no_place (λ j. is_row_of c.args.owner (row_seen (blocks_alone q) j)) (16 * length (blocks_alone q)) (λ k lt. c.loop-j.invariant k (omega arith)))
