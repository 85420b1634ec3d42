use Rattle.std.proofs.Common.{sym}
use Rattle.vol_faults.proofs.WholeLemmas.{read-home-fault}
use Rattle.vol_faults.proofs.first.read_whole.Goals as goal

pub returns-in-Err : goal.returns-in-Err
returns-in-Err c = read-home-fault c.args.blocks.now c.in-Err.fault (sym c.in-Err.ensures.value)
