use Rattle.std.proofs.Common.{ℕ, ◌≡◌, ◌∙◌, ◌≤◌, ◌*◌, true, length, ap, sym, subst}
use Rattle.std.specs.Prelude.{nat_le}
use Rattle.fx_header.specs.Pointers.{AreRuns, blocks_in, map_words}
use Rattle.fx_header.specs.Headers.{header_bytes, with_runs, map_area}
use Rattle.plain_rules.specs.Lookups.{header_most}
use Rattle.op_law.specs.Writing.{runs_for}
use Rattle.op_law.specs.Entering.{new_header, fields_for}
use Rattle.op_steps.proofs.FileRuns.{are_runs_for}
use Rattle.op_create.specs.Files.{file_made}
use Rattle.op_steps.proofs.Clustered.{few_blocks, few_words}
use Rattle.op_create.proofs.files.header_block.Goals as goal

pub set_runs-requires-clause-runs : goal.set_runs-requires-clause-runs
set_runs-requires-clause-runs c =
    let g = c.args.g.now in
    let e = c.as_slice-2.ensures.value ∙ c.in_ok-runs.ensures in
    subst AreRuns (sym e) (are_runs_for g c.requires.geometry.cluster_from c.args.clusters.now c.requires.within.there c.requires.geometry.blocks_to)

pub set_runs-requires-clause-blocks : goal.set_runs-requires-clause-blocks
set_runs-requires-clause-blocks c =
    let g = c.args.g.now in
    let e = c.as_slice-2.ensures.value ∙ c.in_ok-runs.ensures in
    subst (λ rs. blocks_in rs ≤ 65536) (sym e) (few_blocks g c.args.clusters.now c.requires.geometry (subst (λ n. n ≤ header_most) (sym c.requires.count) c.requires.sound.clusters))

pub returns : goal.returns
unfolding new_header
returns c =
    let g = c.args.g.now in
    let qs = c.args.clusters.now in
    let f = c.args.f.now in
    let parent : ℕ × ℕ = (c.args.parent.num, c.args.parent.seq) in
    let b = c.new_header-block.result in
    let e = c.as_slice-2.ensures.value ∙ c.in_ok-runs.ensures in
    let t : c.set_runs.result ≡ true =
    c.set_runs.ensures.fits ∙ ap (λ rs. nat_le (length (map_words rs)) (2 * map_area b)) e
    ∙ few_words g qs b c.requires.geometry (subst (λ n. n ≤ header_most) (sym c.requires.count) c.requires.sound.clusters) c.requires.within.there c.new_header-block.ensures.area in
    c.set_runs.ensures.written t
    ∙ ap (with_runs b) e
    ∙ ap (λ x. with_runs x (runs_for g qs)) (c.new_header-block.ensures.written
    ∙ ap (λ h. header_bytes h c.as_slice.result.now parent) c.fields_for.ensures
    ∙ ap (λ text. header_bytes (fields_for g c.args.n (file_made f)) text parent) (c.as_slice.ensures.value ∙ c.in_ok-text.ensures))
