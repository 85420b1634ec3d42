use Rattle.std.proofs.Common.{◌≡◌, ◌∙◌, ◌+◌, ◌++◌, List, Some, Ok, length, take, drop, sym, ap, subst, true}
use Rattle.std.proofs.Math.Seq.{take-append_seam, drop-append-add}
use Rattle.fx_dir.specs.declared.RawEnt.{RawEnt}
use Rattle.fx_dir.specs.Lists.{Each}
use Rattle.fx_dir.specs.Entries.{rises}
use Rattle.fx_dir.specs.Records.{block_entries}
use Rattle.fx_dir.specs.Directory.{one_more}
use Rattle.fx_dir.specs.Writing.{IsInForm}
use Rattle.fx_dir.proofs.Cover.{each-append}
use Rattle.fx_dir.proofs.Mixing.{each-drop}
use Rattle.fx_dir.proofs.Appending.{found, drop-behind, block-sound}
use Rattle.fx_dir.proofs.reading.one_more.Goals as goal

pub count_met-requires-clause-found : goal.count_met-requires-clause-found
count_met-requires-clause-found c =
    let old = c.args.met.now.items in
    let f = found _ old c.push_block.new.list.items (block_entries c.args.b.now) c.in_ok-whole.ensures c.if-not-whole.false in
    let t : c.split_at.result.1.now ≡ f.0 = c.split_at.ensures.back ∙ (λ i. drop ((ap length c.as_slice-at.ensures.value) i) ((c.as_slice.ensures.value ∙ f.2) i)) ∙ drop-behind old f.0 in
    subst (λ (x : List RawEnt). rises x ≡ true) (sym t) (block-sound c.args.b.now f.0 c.fits-b f.1).1

pub returns-clause-value : goal.returns-clause-value
returns-clause-value c =
    let old = c.args.met.now.items in
    let new = c.push_block.new.list.items in
    let n = c.in_ok-count.count in
    let f = found _ old new (block_entries c.args.b.now) c.in_ok-whole.ensures c.if-not-whole.false in
    let at = ap length c.as_slice-at.ensures.value in
    let slice = c.as_slice.ensures.value ∙ f.2 in
    let front : c.split_at.result.0.now ≡ old = c.split_at.ensures.front ∙ (λ i. take (at i) (slice i)) ∙ take-append_seam old f.0 in
    let back : c.split_at.result.1.now ≡ f.0 = c.split_at.ensures.back ∙ (λ i. drop (at i) (slice i)) ∙ drop-behind old f.0 in
    let left : c.take_out.new.es.items ≡ old ++ drop n f.0 =
    c.in_ok-take_out.ensures ∙ (λ i. take (at i) (f.2 i) ++ drop (at i + n) (f.2 i)) ∙ (λ i. take-append_seam old f.0 i ++ drop-append-add old f.0 n i) in
    ap (one_more c.args.vbn old) f.1
    ∙ (λ i. one_more 0 (sym front i) (Some (sym back i)))
    ∙ c.in_ok-count.ensures.value
    ∙ ap Ok ((λ i. front i ++ drop n (back i)) ∙ sym left)

pub returns-clause-form : goal.returns-clause-form
returns-clause-form c =
    let old = c.args.met.now.items in
    let n = c.in_ok-count.count in
    let f = found _ old c.push_block.new.list.items (block_entries c.args.b.now) c.in_ok-whole.ensures c.if-not-whole.false in
    let at = ap length c.as_slice-at.ensures.value in
    let left : c.take_out.new.es.items ≡ old ++ drop n f.0 =
    c.in_ok-take_out.ensures ∙ (λ i. take (at i) (f.2 i) ++ drop (at i + n) (f.2 i)) ∙ (λ i. take-append_seam old f.0 i ++ drop-append-add old f.0 n i) in
    subst (λ (x : List RawEnt). Each IsInForm x) (sym left) (each-append IsInForm old (drop n f.0) c.requires.form (each-drop IsInForm n f.0 (block-sound c.args.b.now f.0 c.fits-b f.1).0))
