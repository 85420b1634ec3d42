use Rattle.std.proofs.Common.{◌∙◌, ◌++◌, ℕ, List, sym, ap, subst}
use Rattle.base_words.specs.Lists.{Has}
use Rattle.fx_header.specs.declared.run.Run.{Run}
use Rattle.fx_header.specs.Headers.{HasRoom, with_map, with_link}
use Rattle.vol_spell.specs.Reading.{total_of}
use Rattle.op_law.specs.Headers.{tail_of, front_part, room_for, listing}
use Rattle.op_law.specs.SeenFiles.{file_clusters}
use Rattle.op_law.specs.Writing.{runs_for}
use Rattle.op_steps.specs.Seeing.{file_seen}
use Rattle.op_extend.proofs.FileClusters.{both_runs}
use Rattle.op_extend.proofs.Rooms.{has_taken, grown_few, grown_there, has_room}
use Rattle.op_extend.proofs.writing.grown_last.Goals as goal

pub list_runs-requires-clause-room : goal.list_runs-requires-clause-room
list_runs-requires-clause-room c =
    let g = c.args.g.now in
    let f = file_seen g c.args.f.now in
    let k = f.file.clusters in
    let cs = file_clusters g f in
    let qs = c.args.clusters.now in
    let b = c.args.last.now in
    let e = c.as_slice.ensures.value ∙ c.in_ok-push_runs.ensures ∙ both_runs g (tail_of k cs) (front_part f qs) _ _ c.in_ok-runs.ensures c.front_part.ensures in
    subst (λ (rs : List Run). HasRoom b rs) (sym e)
    (has_room g b (tail_of k cs ++ front_part f qs) c.requires.geometry c.requires.offsets (grown_few k cs qs)
    (grown_there (total_of g) k cs qs c.requires.whole.whole.there c.requires.growth.there))

pub returns : goal.returns
unfolding listing
returns c =
    let g = c.args.g.now in
    let f = file_seen g c.args.f.now in
    let k = f.file.clusters in
    let cs = file_clusters g f in
    let qs = c.args.clusters.now in
    let b = c.args.last.now in
    let all = runs_for g (tail_of k cs ++ front_part f qs) in
    let e = c.as_slice.ensures.value ∙ c.in_ok-push_runs.ensures ∙ both_runs g (tail_of k cs) (front_part f qs) _ _ c.in_ok-runs.ensures c.front_part.ensures in
    c.list_runs.ensures ∙ ap (λ (rs : List Run). with_link (with_map b rs) c.link_to.result.0 c.link_to.result.1) e
    ∙ ap (λ (l : ℕ × ℕ). with_link (with_map b all) l.0 l.1) c.link_to.ensures

pub push_runs-requires-clause-there : goal.push_runs-requires-clause-there
push_runs-requires-clause-there c q t =
    let qs = c.args.clusters.now in
    c.requires.growth.there q (has_taken (room_for (file_seen c.args.g.now c.args.f.now).file.clusters) qs q (subst (λ (xs : List ℕ). Has xs q) c.front_part.ensures t))
