use Rattle.std.proofs.Common.{◌≤◌, ◌*◌, ◌/◌, arith}
use Rattle.std.proofs.Math.Nat.{mul-div-le}
use Rattle.op_steps.proofs.Begun.{at_error}
use Rattle.op_steps.specs.Seeing.{file_seen}
use Rattle.op_steps.specs.Looking.{space_seen}
use Rattle.op_steps.proofs.Pushing.{at_error_by, slots_begun, tail_begun, row_begun}
use Rattle.op_steps.proofs.writing.push_gone.Goals as goal

pub overflow_add-cost : goal.overflow_add-cost
overflow_add-cost c =
    let w = c.args.g.now.cluster in
    let blocks = c.args.f.now.fields.blocks in
    let most : w * (blocks / w) ≤ blocks = mul-div-le blocks w in
    let few = c.requires.readable.few in
    omega arith

pub returns-in_err-push_headers-clause-err : goal.returns-in_err-push_headers-clause-err
returns-in_err-push_headers-clause-err c =
    let g = c.args.g.now in
    at_error _ (slots_begun g (file_seen g c.args.f.now) (space_seen c.args.space.now) c.args.writes.now _ c.in_err-push_headers.ensures.err)

pub returns-in_err-push_freeing-clause-err : goal.returns-in_err-push_freeing-clause-err
returns-in_err-push_freeing-clause-err c =
    let g = c.args.g.now in
    at_error _ (tail_begun g (file_seen g c.args.f.now) (space_seen c.args.space.now) c.args.writes.now c.args.clusters.now c.in_ok-numbers.numbers _ _ c.requires.clusters c.in_ok-numbers.ensures
    c.in_ok-push_headers.ensures.ok c.in_err-push_freeing.ensures.err)

pub returns-clause-err : goal.returns-clause-err
returns-clause-err c =
    let g = c.args.g.now in
    at_error_by c.push_discharge.result
    (row_begun g (file_seen g c.args.f.now) (space_seen c.args.space.now) c.args.writes.now c.args.clusters.now c.in_ok-numbers.numbers _ _ c.push_discharge.new.writes c.requires.clusters c.in_ok-numbers.ensures
    c.in_ok-push_headers.ensures.ok c.in_ok-push_freeing.ensures.ok)
    c.push_discharge.ensures.err
