use Rattle.std.proofs.Common.{◌≡◌, ◌∙◌, List, refl, subst, arith}
use Rattle.std.specs.Prelude.{IfOk}
use Rattle.vol_parts.specs.declared.finding.Finding.{Finding}
use Rattle.vol_parts.specs.Volumes.{volume}
use Rattle.vol_analyze.proofs.Told.{told_long, told_flags, warnings_is}
use Rattle.vol_analyze.proofs.warnings.all_warnings.Goals as goal

pub findings_with-requires-clause-numbers : goal.findings_with-requires-clause-numbers
findings_with-requires-clause-numbers c =
    omega (arith, told_long (volume c.args.home.now c.args.blocks.now) c.args.cat.now c.args.cat.now.files c.requires.told refl)

pub findings_with-requires-clause-flags : goal.findings_with-requires-clause-flags
findings_with-requires-clause-flags c =
    omega (arith, told_flags (volume c.args.home.now c.args.blocks.now) c.args.cat.now c.requires.told)

pub returns : goal.returns
returns c =
    let e = warnings_is (volume c.args.home.now c.args.blocks.now) c.args.cat.now c.as_slice.result.now c.as_slice-2.result.now c.as_slice-3.result.now
    c.requires.told
    (record {
      doubles = c.as_slice.ensures.value ∙ c.in_ok-doubled.ensures;
      surplus = c.as_slice-2.ensures.value ∙ c.in_ok-files.ensures;
      strays = c.as_slice-3.ensures.value ∙ c.in_ok-headers.ensures;
    }) in
    subst (λ (ws : List Finding). IfOk c.findings_with.result (λ fs. fs.items ≡ ws)) e c.findings_with.ensures
