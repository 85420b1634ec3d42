use Rattle.std.proofs.Common.{◌∙◌, filter, refl, sym, arith}
use Rattle.vol_parts.specs.Volumes.{volume, numbers}
use Rattle.vol_parts.specs.Warnings.{has_doubles, has_surplus, is_stray}
use Rattle.vol_analyze.proofs.Told.{told_long, told_flags}
use Rattle.vol_analyze.proofs.Heads.{warning_early, warning_late}
use Rattle.vol_analyze.proofs.firsts.first_warning.Goals as goal

pub first_early-requires : goal.first_early-requires
first_early-requires c =
    omega (arith, told_long (volume c.args.home.now c.args.blocks.now) c.args.cat.now c.args.cat.now.files c.requires.told refl)

pub first_late-requires-clause-numbers : goal.first_late-requires-clause-numbers
first_late-requires-clause-numbers c =
    omega (arith, told_long (volume c.args.home.now c.args.blocks.now) c.args.cat.now c.args.cat.now.files c.requires.told refl)

pub first_late-requires-clause-flags : goal.first_late-requires-clause-flags
first_late-requires-clause-flags c =
    omega (arith, told_flags (volume c.args.home.now c.args.blocks.now) c.args.cat.now c.requires.told)

pub returns-in-Some : goal.returns-in-Some
returns-in-Some c =
    let v = volume c.args.home.now c.args.blocks.now in
    warning_early v c.args.cat.now (filter (has_doubles v) (numbers v)) (filter (has_surplus v) (numbers v)) (filter (is_stray v) (numbers v)) c.in-Some.found
    c.requires.told (record { doubles = refl; surplus = refl; strays = refl }) (sym c.in-Some.is ∙ c.in_ok-found.ensures)

pub returns : goal.returns
returns c =
    warning_late (volume c.args.home.now c.args.blocks.now) c.args.cat.now c.as_slice.result.now c.as_slice-2.result.now c.as_slice-3.result.now
    c.first_late.result c.requires.told
    (record {
      doubles = c.as_slice.ensures.value ∙ c.in_ok-doubled.ensures;
      surplus = c.as_slice-2.ensures.value ∙ c.in_ok-files.ensures;
      strays = c.as_slice-3.ensures.value ∙ c.in_ok-headers.ensures;
    }) (sym c.in_default.is ∙ c.in_ok-found.ensures) c.first_late.ensures
