use Rattle.std.proofs.Common.{◌≡◌, ◌∙◌, [], List, length, map, slice_index_or, sym, ap, subst, arith, refl}
use Rattle.std.proofs.lemmas.Result.{IfOk-weaker}
use Rattle.base_words.specs.Fields.{Block}
use Rattle.base_words.specs.Packing.{pack}
use Rattle.fx_dir.specs.declared.RawEnt.{RawEnt}
use Rattle.fx_dir.specs.Lists.{Each}
use Rattle.fx_dir.specs.Entries.{without}
use Rattle.fx_dir.specs.Moves.{place, key, rising, removal_on, packed_as}
use Rattle.fx_dir.specs.Writing.{IsInForm, name_of, block_of}
use Rattle.fx_dir.specs.Pieces.{removal_by}
use Rattle.fx_dir.proofs.Naming.{has-short}
use Rattle.fx_dir.proofs.Greedy.{pack-length}
use Rattle.fx_dir.proofs.Seeing.{without-each}
use Rattle.fx_dir.proofs.Based.{long-from, read-fits, read-order}
use Rattle.fx_dir.proofs.Removing.{removes, remove-there}
use Rattle.fx_dir.proofs.Filling.{length-blocks, removal-is, pack-rises, pack-ranged}
use Rattle.fx_dir.proofs.moves.remove_by.Goals as goal

pub new-requires : goal.new-requires
new-requires c = has-short c.args.name.now c.args.ver c.args.es.now c.requires.forms c.requires.there

pub pack_into-requires : goal.pack_into-requires
pack_into-requires c = subst (λ t. Each IsInForm t) (sym (c.as_slice.ensures.value ∙ c.in_ok-rest.ensures)) (without-each IsInForm _ c.args.es.now c.requires.forms)

pub remove_writes-requires-clause-left : goal.remove_writes-requires-clause-left
remove_writes-requires-clause-left c = ap length c.requires.whole ∙ length-blocks (length c.args.old.now) c.args.es.now

pub remove_writes-requires-clause-rest : goal.remove_writes-requires-clause-rest
remove_writes-requires-clause-rest c = ap length (c.as_slice-2.ensures.value ∙ c.in_ok-after.ensures.blocks) ∙ length-blocks (length c.args.old.now) c.as_slice.result.now

pub remove_writes-requires-clause-there : goal.remove_writes-requires-clause-there
remove_writes-requires-clause-there c =
    let old = c.args.old.now in
    let k = length old in
    let fs = c.args.es.now in
    let e : RawEnt = key c.args.name.now c.args.ver in
    let n = ap (λ t. key t c.args.ver) c.new.ensures in
    let read = c.requires.read in
    let fits = read-fits old fs (long-from old c.told-old) read in
    let at : c.in_ok-lacking.lacking.at ≡ place e (pack name_of k fs) = c.in_ok-lacking.ensures.at ∙ ap (λ x. place x (pack name_of k fs)) n in
    rw (at, c.requires.whole) (omega (arith, remove-there k fs e fits c.requires.there, length-blocks k fs, pack-length k fs))

pub returns-clause-moves : goal.returns-clause-moves
returns-clause-moves c =
    let old = c.args.old.now in
    let k = length old in
    let fs = c.args.es.now in
    let e : RawEnt = key c.args.name.now c.args.ver in
    let n = ap (λ t. key t c.args.ver) c.new.ensures in
    let read = c.requires.read in
    let fits = read-fits old fs (long-from old c.told-old) read in
    let whole : c.args.whole.items ≡ map block_of (pack name_of k fs) = c.requires.whole in
    let rest : c.as_slice.result.now ≡ without e fs = c.as_slice.ensures.value ∙ c.in_ok-rest.ensures ∙ ap (λ x. without x fs) n in
    let after : c.as_slice-2.result.now ≡ map block_of (pack name_of k (without e fs)) = c.as_slice-2.ensures.value ∙ c.in_ok-after.ensures.blocks ∙ ap (λ t. map block_of (pack name_of k t)) rest in
    let at : c.in_ok-lacking.lacking.at ≡ place e (pack name_of k fs) = c.in_ok-lacking.ensures.at ∙ ap (λ x. place x (pack name_of k fs)) n in
    let block : c.in_ok-lacking.lacking.block ≡ block_of (without e (slice_index_or (pack name_of k fs) (place e (pack name_of k fs)) [])) =
    c.in_ok-lacking.ensures.block ∙ ap (λ x. block_of (without x (slice_index_or (pack name_of k fs) (place x (pack name_of k fs)) []))) n in
    let is = (λ i. removal_by old (whole i) (at i) (block i) (after i)) ∙ removal-is old (pack name_of k fs) e (pack name_of k (without e fs)) (pack-rises k fs fits (read-order old fs read)) in
    IfOk-weaker c.remove_writes.result _ _ (λ r by. by ∙ is ∙ sym (ap (removal_on old e) read)) c.remove_writes.ensures.moves

pub returns-clause-packing : goal.returns-clause-packing
returns-clause-packing c =
    let old = c.args.old.now in
    IfOk-weaker c.remove_writes.result _ _ (λ r by. by ∙ ap (λ (t : List Block). length (rising 1 old t)) (c.requires.whole ∙ sym (ap (packed_as old) c.requires.read))) c.remove_writes.ensures.packing

pub returns-clause-law : goal.returns-clause-law
returns-clause-law c =
    let old = c.args.old.now in
    let k = length old in
    let fs = c.args.es.now in
    let e : RawEnt = key c.args.name.now c.args.ver in
    let n = ap (λ t. key t c.args.ver) c.new.ensures in
    let read = c.requires.read in
    let fits = read-fits old fs (long-from old c.told-old) read in
    let whole : c.args.whole.items ≡ map block_of (pack name_of k fs) = c.requires.whole in
    let rest : c.as_slice.result.now ≡ without e fs = c.as_slice.ensures.value ∙ c.in_ok-rest.ensures ∙ ap (λ x. without x fs) n in
    let after : c.as_slice-2.result.now ≡ map block_of (pack name_of k (without e fs)) = c.as_slice-2.ensures.value ∙ c.in_ok-after.ensures.blocks ∙ ap (λ t. map block_of (pack name_of k t)) rest in
    let at : c.in_ok-lacking.lacking.at ≡ place e (pack name_of k fs) = c.in_ok-lacking.ensures.at ∙ ap (λ x. place x (pack name_of k fs)) n in
    let block : c.in_ok-lacking.lacking.block ≡ block_of (without e (slice_index_or (pack name_of k fs) (place e (pack name_of k fs)) [])) =
    c.in_ok-lacking.ensures.block ∙ ap (λ x. block_of (without x (slice_index_or (pack name_of k fs) (place x (pack name_of k fs)) []))) n in
    let is = (λ i. removal_by old (whole i) (at i) (block i) (after i)) ∙ removal-is old (pack name_of k fs) e (pack name_of k (without e fs)) (pack-rises k fs fits (read-order old fs read)) in
    let ranged = pack-ranged k fs fits c.requires.ranged in
    IfOk-weaker c.remove_writes.result _ _ (λ r by. removes old fs e r.moves.items (long-from old c.told-old) read c.requires.there (record { form = c.requires.forms; ranged = ranged }) refl (by ∙ is)) c.remove_writes.ensures.moves
