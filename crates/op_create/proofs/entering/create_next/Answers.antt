use Rattle.std.proofs.Common.{arith, subst, sym}
use Rattle.op_law.specs.Events.{space_of}
use Rattle.op_law.specs.Writing.{clusters_for}
use Rattle.op_law.specs.Moving.{SeenDir}
use Rattle.op_law.specs.Entering.{create_in}
use Rattle.op_law.specs.Behind.{FollowsBy}
use Rattle.op_law.specs.Readable.{HeadIsReadable}
use Rattle.op_steps.specs.Names.{dir_seen}
use Rattle.op_steps.proofs.Followed.{first_names}
use Rattle.op_create.proofs.Judged.{create_first}
use Rattle.op_create.proofs.entering.create_next.Goals as goal

pub create_in-requires-clause-parent : goal.create_in-requires-clause-parent
create_in-requires-clause-parent c =
    let a = c.in-All.ensures.number in
    let b = c.requires.geometry.files_to in
    omega arith

pub create_in-requires-clause-follows : goal.create_in-requires-clause-follows
create_in-requires-clause-follows c =
    let seen = c.args.seen.now in
    let g = seen.geometry in
    let name = c.args.name.now in
    let next = λ (d : SeenDir). create_in g d name c.args.ver (clusters_for g c.args.blocks) c.args.owner in
    let first = first_names g c.args.dir next seen c.all.result c.all.ensures.locks c.all.ensures.blocks (create_first g c.args.dir name c.args.ver c.args.blocks c.args.owner seen c.requires.follows) in
    subst (λ k. FollowsBy (create_in g (dir_seen c.in-All.d) name c.args.ver k c.args.owner) c.in-All.rest (space_of seen)) (sym c.clusters_for-clusters.ensures) (c.in-All.ensures.follows next (space_of seen) first)

pub create_in-requires-clause-read : goal.create_in-requires-clause-read
create_in-requires-clause-read c = c.in-All.ensures.read (subst (HeadIsReadable c.args.dir) (sym c.all.ensures.blocks) c.requires.readable)
