use Rattle.std.proofs.Common.{sym}
use Rattle.vol_parts.specs.Volumes.{volume}
use Rattle.vol_faults.specs.Conditions.{is_bad_header}
use Rattle.vol_faults.proofs.FirstLemmas.{none-found, headers-found, header-faulty, header-wrong}
use Rattle.vol_faults.proofs.headers.first_bad_header.Goals as goal
use Rattle.vol_faults.proofs.headers.first_bad_header.Goals.{in-Err, in-Ok}

pub returns-in_err-n-clause-first : goal.returns-in_err-n-clause-first
returns-in_err-n-clause-first c =
    let v = volume c.args.home.now c.args.blocks.now in
    rw c.from_residual.ensures (none-found v 1 (is_bad_header v) 1 v.home.files (headers-found v) c.in_err-n.ensures)

pub returns-clause-first : goal.returns-clause-first
returns-clause-first c =
    let v = volume c.args.home.now c.args.blocks.now in
    elim c.match-head.branch [
      | in-Err w ↦ rw w.result-is (header-faulty v c.in_ok-n.n w.in-Err.fault c.in_ok-n.ensures (sym w.in-Err.ensures))
      | in-Ok w ↦ rw w.result-is (header-wrong v c.in_ok-n.n w.in-Ok.field-0 c.in_ok-n.ensures (sym w.in-Ok.ensures))
    ]
