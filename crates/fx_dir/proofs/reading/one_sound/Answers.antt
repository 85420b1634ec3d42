use Rattle.std.proofs.Common.{◌≡◌, ◌∙◌, ◌+◌, ◌++◌, true, List, length, take, drop, sym, ap, subst}
use Rattle.std.proofs.Math.Seq.{take-append_seam, drop-append-add}
use Rattle.fx_dir.specs.declared.RawEnt.{RawEnt}
use Rattle.fx_dir.specs.Lists.{Each}
use Rattle.fx_dir.specs.Entries.{rises}
use Rattle.fx_dir.specs.Records.{block_entries}
use Rattle.fx_dir.specs.Directory.{entries_at}
use Rattle.fx_dir.specs.Writing.{IsInForm}
use Rattle.fx_dir.proofs.Appending.{drop-behind, block-sound}
use Rattle.fx_dir.proofs.Cover.{each-append}
use Rattle.fx_dir.proofs.Finding.{block-is}
use Rattle.fx_dir.proofs.Mixing.{each-drop}
use Rattle.fx_dir.proofs.reading.one_sound.Goals as goal

pub count_met-requires-clause-found : goal.count_met-requires-clause-found
count_met-requires-clause-found c =
    let old = c.args.met.now.items in
    let fs = entries_at c.args.b.now in
    let is = block-is 0 old (block_entries c.args.b.now) c.requires.sound in
    let t : c.split_at.result.1.now ≡ fs = c.split_at.ensures.back ∙ (λ i. drop ((ap length c.as_slice-at.ensures.value) i) ((c.as_slice.ensures.value ∙ c.in_ok-push_sound.ensures) i)) ∙ drop-behind old fs in
    subst (λ (x : List RawEnt). rises x ≡ true) (sym t) (block-sound c.args.b.now fs c.fits-b is).1

pub returns-clause-form : goal.returns-clause-form
returns-clause-form c =
    let old = c.args.met.now.items in
    let fs = entries_at c.args.b.now in
    let n = c.in-Ok.count in
    let is = block-is 0 old (block_entries c.args.b.now) c.requires.sound in
    let at = ap length c.as_slice-at.ensures.value in
    let left : c.take_out.new.es.items ≡ old ++ drop n fs =
    c.in_ok-take_out.ensures ∙ (λ i. take (at i) (c.in_ok-push_sound.ensures i) ++ drop (at i + n) (c.in_ok-push_sound.ensures i)) ∙ (λ i. take-append_seam old fs i ++ drop-append-add old fs n i) in
    subst (λ (x : List RawEnt). Each IsInForm x) (sym left) (each-append IsInForm old (drop n fs) c.requires.form (each-drop IsInForm n fs (block-sound c.args.b.now fs c.fits-b is).0))
