use Rattle.std.proofs.Common.{◌∙◌, List, sym, subst}
use Rattle.fx_header.specs.declared.run.Run.{Run}
use Rattle.fx_header.specs.Headers.{HasRoom}
use Rattle.vol_spell.specs.Reading.{total_of}
use Rattle.op_law.specs.Headers.{tail_of}
use Rattle.op_law.specs.SeenFiles.{file_clusters}
use Rattle.op_steps.specs.Seeing.{file_seen}
use Rattle.op_extend.proofs.Rooms.{tail_few, tail_there, has_room}
use Rattle.op_extend.proofs.cutting.cut_last.Goals as goal

pub list_runs-requires-clause-room : goal.list_runs-requires-clause-room
list_runs-requires-clause-room c =
    let g = c.args.g.now in
    let k = c.args.k in
    let cs = file_clusters g (file_seen g c.args.f.now) in
    let b = c.args.block.now in
    subst (λ (rs : List Run). HasRoom b rs) (sym (c.as_slice.ensures.value ∙ c.in_ok-runs.ensures))
    (has_room g b (tail_of k cs) c.requires.geometry c.requires.offsets (tail_few k cs) (tail_there (total_of g) k cs c.requires.can.seen.whole.there))
