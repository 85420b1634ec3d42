use Rattle.std.proofs.Common.{◌≡◌, ◌∙◌, arith}
use Rattle.vol_parts.specs.Volumes.{volume}
use Rattle.vol_parts.specs.Catalogues.{files_of}
use Rattle.vol_parts.proofs.Sizes.{one-file, system-one, body-few, length-files_of, reserved-few}
use Rattle.vol_parts.proofs.catalogue.read_catalogue.Goals as goal

pub reserved-requires-clause-many : goal.reserved-requires-clause-many
reserved-requires-clause-many c =
    let v = volume c.args.home.now c.args.blocks.now in
    let e : c.items.result.now ≡ files_of v = c.items.ensures ∙ c.in_ok-files.ensures in
    rw e (omega (arith, length-files_of v))

pub reserved-requires-clause-fits : goal.reserved-requires-clause-fits
reserved-requires-clause-fits c =
    let v = volume c.args.home.now c.args.blocks.now in
    let e : c.items.result.now ≡ files_of v = c.items.ensures ∙ c.in_ok-files.ensures in
    rw e (reserved-few v (omega arith) c.requires.blocks c.told-blocks c.requires.systems c.requires.runs)

pub size-requires-clause-one : goal.size-requires-clause-one
size-requires-clause-one c =
    let v = volume c.args.home.now c.args.blocks.now in
    system-one v 10 (c.requires.systems.sound 10 (omega arith) (omega arith))

pub overflow_mul-result : goal.overflow_mul-result
overflow_mul-result c =
    let v = volume c.args.home.now c.args.blocks.now in
    let inside = c.requires.runs.inside 10 (record { from = omega arith; to = omega arith }) in
    let file = one-file v 10 (system-one v 10 (c.requires.systems.sound 10 (omega arith) (omega arith))) in
    let few = body-few v 10 file c.requires.blocks c.told-blocks inside.inside in
    omega (arith, c.size.ensures)
