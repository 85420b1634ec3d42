use Rattle.std.proofs.Common.{◌≡◌, ◌∙◌, length, map, sym, ap, subst}
use Rattle.std.proofs.lemmas.Result.{IfOk-weaker}
use Rattle.base_words.specs.Packing.{pack}
use Rattle.fx_dir.specs.Lists.{Each}
use Rattle.fx_dir.specs.Moves.{rising}
use Rattle.fx_dir.specs.Writing.{IsRanged, name_of, block_of}
use Rattle.fx_dir.proofs.Based.{long-from, read-fits}
use Rattle.fx_dir.proofs.Repacking.{packs}
use Rattle.fx_dir.proofs.Filling.{length-blocks, pack-ranged}
use Rattle.fx_dir.proofs.moves.pack_moves.Goals as goal

pub rising-requires-clause-count : goal.rising-requires-clause-count
rising-requires-clause-count c = sym (ap length (c.as_slice-2.ensures.value ∙ c.in_ok-packing.ensures.blocks) ∙ length-blocks (length c.args.old.now) c.as_slice.result.now)

pub returns-clause-law : goal.returns-clause-law
returns-clause-law c =
    let old = c.args.old.now in
    let k = length old in
    let fs = c.in_ok-es.es.items in
    let read = c.in_ok-es.ensures.entries in
    let long = long-from old c.told-old in
    let ranged = pack-ranged k fs (read-fits old fs long read) (subst (λ t. Each (λ g. Each IsRanged g) (pack name_of k t)) c.as_slice.ensures.value c.in_ok-packing.ensures.ranged) in
    let blocks : c.as_slice-2.result.now ≡ map block_of (pack name_of k fs) = c.as_slice-2.ensures.value ∙ c.in_ok-packing.ensures.blocks ∙ ap (λ t. map block_of (pack name_of k t)) c.as_slice.ensures.value in
    IfOk-weaker c.rising.result _ _ (λ v is. packs old fs v.items long read (record { form = c.in_ok-es.ensures.form; ranged = ranged }) (is ∙ ap (rising 1 old) blocks)) c.rising.ensures
