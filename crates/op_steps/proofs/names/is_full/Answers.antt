use Rattle.std.proofs.Common.{◌∙◌, not, ap}
use Rattle.std.specs.Result.{result_ok}
use Rattle.fx_dir.specs.Directory.{directory}
use Rattle.fx_dir.specs.Moves.{key}
use Rattle.fx_dir.specs.Room.{has_room}
use Rattle.op_law.specs.Behind.{blocks_alone}
use Rattle.op_steps.proofs.Rooms.{full_by, ok_of}
use Rattle.op_steps.proofs.names.is_full.Goals as goal

pub returns : goal.returns
returns c =
    let g = c.args.g.now in
    let bs = blocks_alone c.args.seen.now in
    let ver = c.args.ver in
    let r = ok_of (directory bs) c.requires in
    ap not (c.has_room.ensures r.0 r.1 ∙ ap (λ n. has_room g.cluster (key n ver) r.0) c.items.ensures) ∙ full_by g bs r.0 c.args.name.now ver (ap result_ok r.1)
