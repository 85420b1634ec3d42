use Rattle.std.proofs.Common.{◌∙◌, ap, arith, subst, sym}
use Rattle.plain_rules.specs.Answers.{dir_name}
use Rattle.op_law.specs.Events.{space_of}
use Rattle.op_law.specs.Moving.{SeenDir}
use Rattle.op_law.specs.Entering.{mkdir_in}
use Rattle.op_law.specs.Behind.{FollowsBy}
use Rattle.op_law.specs.Readable.{HeadIsReadable}
use Rattle.op_steps.specs.Names.{dir_seen}
use Rattle.op_steps.proofs.Followed.{first_names}
use Rattle.op_create.proofs.Judged.{mkdir_first}
use Rattle.base_words.specs.Names.{is_name}
use Rattle.op_create.proofs.DirNames.{dir_name_is}
use Rattle.op_create.proofs.entering.mkdir_next.Goals as goal

pub mkdir_in-requires-clause-parent : goal.mkdir_in-requires-clause-parent
mkdir_in-requires-clause-parent c =
    let a = c.in-All.ensures.number in
    let b = c.requires.geometry.files_to in
    omega arith

pub mkdir_in-requires-clause-name : goal.mkdir_in-requires-clause-name
mkdir_in-requires-clause-name c = ap is_name c.in_ok-name-in-All.ensures ∙ dir_name_is c.args.name.now c.requires.name

pub mkdir_in-requires-clause-follows : goal.mkdir_in-requires-clause-follows
mkdir_in-requires-clause-follows c =
    let seen = c.args.seen.now in
    let g = seen.geometry in
    let next = λ (d : SeenDir). mkdir_in g d (dir_name c.args.name.now) c.args.owner in
    let first = first_names g c.args.dir next seen c.all.result c.all.ensures.locks c.all.ensures.blocks (mkdir_first g c.args.dir c.args.name.now c.args.owner seen c.requires.follows) in
    subst (λ n. FollowsBy (mkdir_in g (dir_seen c.in-All.d) n c.args.owner) c.in-All.rest (space_of seen)) (sym c.in_ok-name-in-All.ensures) (c.in-All.ensures.follows next (space_of seen) first)

pub mkdir_in-requires-clause-read : goal.mkdir_in-requires-clause-read
mkdir_in-requires-clause-read c = c.in-All.ensures.read (subst (HeadIsReadable c.args.dir) (sym c.all.ensures.blocks) c.requires.readable)
