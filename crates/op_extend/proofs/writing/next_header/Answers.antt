use Rattle.std.proofs.Common.{◌≡◌, ◌∙◌, ◌≤◌, ℕ, true, List, [], length, ap, subst, sym, arith, length-drop}
use Rattle.std.specs.Prelude.{◌*◌, nat_le}
use Rattle.std.proofs.lemmas.Bool.Decides.{nat_tests}
use Rattle.base_words.specs.Lists.{Has}
use Rattle.fx_header.specs.declared.run.Run.{Run}
use Rattle.fx_header.specs.declared.slot.Hdr.{Hdr}
use Rattle.fx_header.specs.Pointers.{AreRuns, map_words}
use Rattle.fx_header.specs.Headers.{header_bytes, with_map, map_area}
use Rattle.op_law.specs.Headers.{next_header, behind_part, room_for}
use Rattle.op_law.specs.Writing.{runs_for}
use Rattle.op_steps.specs.Seeing.{file_seen}
use Rattle.op_extend.proofs.FileClusters.{both_runs}
use Rattle.op_extend.proofs.Rooms.{has_dropped, has_room, place_few}
use Rattle.op_extend.proofs.writing.next_header.Goals as goal

pub new_header-block-requires-clause-seg : goal.new_header-block-requires-clause-seg
new_header-block-requires-clause-seg c =
    let few = place_few ((file_seen c.args.g.now c.args.f.now).file.clusters) (length c.args.clusters.now) c.requires.growth.all c.requires.slot.needed in
    let same = ap (λ (h : Hdr). h.seg) c.next_fields-fields.ensures in
    subst (λ k. k ≤ 15) (sym same) few

pub set_map-requires-clause-runs : goal.set_map-requires-clause-runs
set_map-requires-clause-runs c =
    let g = c.args.g.now in
    let f = file_seen g c.args.f.now in
    let qs = c.args.clusters.now in
    let room = room_for f.file.clusters in
    let few = c.requires.growth.growth in
    let e = c.as_slice.ensures.value ∙ c.in_ok-push_runs.ensures ∙ both_runs g [] (behind_part f qs) _ _ c.new-runs.ensures.items c.behind_part.ensures in
    subst AreRuns (sym e)
    (has_room g c.new_header-block.result (behind_part f qs) c.requires.geometry c.new_header-block.ensures.offsets (omega (arith, length-drop room qs)) (λ q t. c.requires.growth.there q (has_dropped room qs q t))).0

pub returns : goal.returns
unfolding next_header
returns c =
    let g = c.args.g.now in
    let f = file_seen g c.args.f.now in
    let qs = c.args.clusters.now in
    let room = room_for f.file.clusters in
    let few = c.requires.growth.growth in
    let runs = runs_for g (behind_part f qs) in
    let parent : ℕ × ℕ = (f.num, f.file.seq) in
    let b = c.new_header-block.result in
    let e = c.as_slice.ensures.value ∙ c.in_ok-push_runs.ensures ∙ both_runs g [] (behind_part f qs) _ _ c.new-runs.ensures.items c.behind_part.ensures in
    let fits = (has_room g b (behind_part f qs) c.requires.geometry c.new_header-block.ensures.offsets (omega (arith, length-drop room qs)) (λ q t. c.requires.growth.there q (has_dropped room qs q t))).1 in
    let short : nat_le (length (map_words runs)) (2 * map_area b) ≡ true = grind (arith, nat_tests) in
    let t : c.set_map.result ≡ true = c.set_map.ensures.fits ∙ ap (λ (rs : List Run). nat_le (length (map_words rs)) (2 * map_area b)) e ∙ short in
    c.set_map.ensures.written t
    ∙ ap (with_map b) e
    ∙ ap (λ x. with_map x runs) (c.new_header-block.ensures.written ∙ ap (λ (h : Hdr). header_bytes h [] parent) c.next_fields-fields.ensures)

pub push_runs-requires-clause-there : goal.push_runs-requires-clause-there
push_runs-requires-clause-there c q t =
    let qs = c.args.clusters.now in
    c.requires.growth.there q (has_dropped (room_for (file_seen c.args.g.now c.args.f.now).file.clusters) qs q (subst (λ (xs : List ℕ). Has xs q) c.behind_part.ensures t))
