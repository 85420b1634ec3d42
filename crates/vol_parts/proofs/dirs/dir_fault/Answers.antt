use Rattle.std.proofs.Common.{◌∙◌, [], sym}
use Rattle.vol_parts.specs.Volumes.{volume}
use Rattle.vol_parts.proofs.Runs.{body-one, inside-first}
use Rattle.vol_parts.proofs.Sized.{dir_fault-sized}
use Rattle.vol_parts.proofs.dirs.dir_fault.Goals as goal

pub run_blocks-requires : goal.run_blocks-requires
run_blocks-requires c =
    let v = volume c.args.home.now c.args.blocks.now in
    inside-first v c.in-Some-dir_run.run' [] (rw c.in-Some-dir_run.ensures.1 at c.requires.runs.inside)

pub returns : goal.returns
returns c =
    let v = volume c.args.home.now c.args.blocks.now in
    let one = c.in-Some-dir_run.ensures.1 in
    let inside = inside-first v c.in-Some-dir_run.run' [] (rw one at c.requires.runs.inside) in
    let part = body-one v c.args.n c.in-Some-dir_run.run' one inside ∙ sym c.run_blocks.ensures in
    rw (dir_fault-sized v c.args.n c.in-Some.f _ (sym c.fields.ensures ∙ c.in-Some.is) c.if-not-f.false (sym c.is_one_header.ensures ∙ c.if-not-is_one_header.false) c.in-Some-dir_run.ensures.0 part) c.blocks_fault.ensures
