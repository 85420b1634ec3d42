use Rattle.std.proofs.Common.{◌∙◌, ◌++◌, Some, map, sym, ap}
use Rattle.std.specs.Prelude.{slice_get}
use Rattle.plain_rules.specs.Mending.{places}
use Rattle.vol_faults.specs.Places.{place_of}
use Rattle.vol_analyze.specs.Kinds.{marked_of, nameless_of, seconds_of}
use Rattle.vol_analyze.proofs.Heads.{first_left, first_right}
use Rattle.vol_analyze.proofs.firsts.first_early.Goals as goal

pub returns-in-Some-2 : goal.returns-in-Some-2
returns-in-Some-2 c =
    let cat = c.args.cat.now in
    let here = ap (λ spots. map place_of spots) c.as_slice.ensures.value ∙ c.in_ok-spots.ensures in
    first_right (marked_of cat) (nameless_of cat (places cat) ++ seconds_of cat (places cat)) (Some c.in-Some-2.found) (sym c.in_default.is ∙ c.in_ok-found.ensures)
    (first_left (nameless_of cat (places cat)) (seconds_of cat (places cat)) c.in-Some-2.found
    (sym c.in-Some-2.is ∙ c.in_ok-found-2.ensures ∙ ap (λ ps. slice_get (nameless_of cat ps) 0) here))
