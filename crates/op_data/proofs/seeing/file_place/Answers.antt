use Rattle.std.proofs.Common.{◌∙◌, unwrap_or, slice_index_or, ap}
use Rattle.std.proofs.lemmas.Option.{unwrap_or-slice_get}
use Rattle.fx_header.specs.Pointers.{lbns_in}
use Rattle.op_steps.specs.Seeing.{file_runs}
use Rattle.op_data.proofs.seeing.file_place.Goals as goal

pub returns : goal.returns
returns c =
    let places = lbns_in (file_runs c.args.f.now) in
    c.unwrap_or.ensures
    ∙ ap (λ o. unwrap_or o 0) c.file_lbn.ensures
    ∙ unwrap_or-slice_get places c.saturating_sub.result 0
    ∙ ap (λ i. slice_index_or places i 0) c.saturating_sub.ensures
