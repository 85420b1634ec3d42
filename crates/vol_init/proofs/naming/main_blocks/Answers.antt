use Rattle.std.proofs.Common.{◌∙◌, ap, subst, sym, List}
use Rattle.fx_dir.specs.declared.RawEnt.{RawEnt}
use Rattle.fx_dir.specs.Entries.{rises}
use Rattle.fx_dir.specs.Lists.{Each}
use Rattle.fx_dir.specs.Writing.{IsInForm, IsRanged, IsUniform, name_of}
use Rattle.base_words.specs.Packing.{over}
use Rattle.vol_init.proofs.EntryLemmas.{main-rises, main-form, main-ranged, main-uniform, main-fits}
use Rattle.vol_init.proofs.naming.main_blocks.Goals as goal

pub directory_blocks-requires-clause-order : goal.directory_blocks-requires-clause-order
directory_blocks-requires-clause-order c = ap rises (c.as_slice.ensures.value ∙ c.in_ok-entries.ensures) ∙ main-rises

pub directory_blocks-requires-clause-form : goal.directory_blocks-requires-clause-form
directory_blocks-requires-clause-form c =
    let P : List RawEnt → Type 0 = λ es. Each IsInForm es in
    subst P (sym (c.as_slice.ensures.value ∙ c.in_ok-entries.ensures)) main-form

pub directory_blocks-requires-clause-ranged : goal.directory_blocks-requires-clause-ranged
directory_blocks-requires-clause-ranged c =
    let P : List RawEnt → Type 0 = λ es. Each IsRanged es in
    subst P (sym (c.as_slice.ensures.value ∙ c.in_ok-entries.ensures)) main-ranged

pub directory_blocks-requires-clause-uniform : goal.directory_blocks-requires-clause-uniform
directory_blocks-requires-clause-uniform c =
    let P : List RawEnt → Type 0 = λ es. IsUniform es in
    subst P (sym (c.as_slice.ensures.value ∙ c.in_ok-entries.ensures)) main-uniform

pub directory_blocks-requires-clause-room : goal.directory_blocks-requires-clause-room
directory_blocks-requires-clause-room c = ap (over name_of c.args.cluster) (c.as_slice.ensures.value ∙ c.in_ok-entries.ensures) ∙ main-fits c.args.cluster c.requires
