use Rattle.std.proofs.Common.{refl, arith}
use Rattle.std.proofs.lemmas.Bool.{and_parts, not-true}
use Rattle.vol_parts.specs.declared.finding.Finding.TheVariants.{FreeNumber}
use Rattle.vol_parts.specs.Volumes.{volume}
use Rattle.vol_faults.specs.Conditions.{is_free_in_use}
use Rattle.vol_faults.proofs.FirstLemmas.{none-found, least-found, free-number-found}
use Rattle.vol_faults.proofs.numbers.first_free_number.Goals as goal

pub returns-in_err-lowest_free_in_use : goal.returns-in_err-lowest_free_in_use
returns-in_err-lowest_free_in_use c =
    let v = volume c.args.home.now c.args.blocks.now in
    rw c.from_residual.ensures (none-found v 12 (is_free_in_use v) 1 v.home.files (free-number-found v) c.in_err-lowest_free_in_use.ensures)

pub returns : goal.returns
unfolding is_free_in_use
returns c =
    let v = volume c.args.home.now c.args.blocks.now in
    let n = c.in_ok-lowest_free_in_use.field-0 in
    let low = c.in_ok-lowest_free_in_use.ensures in
    let parts = and_parts _ _ low.2 in
    least-found v 12 (is_free_in_use v) 1 v.home.files n (FreeNumber n) (free-number-found v) low refl refl
    (record { from = low.0; to = omega (arith, low.1) }, not-true _ parts.0, parts.1)
