use Rattle.std.proofs.Common.{sym}
use Rattle.vol_sound.proofs.RankLemmas.{found-home}
use Rattle.vol_sound.proofs.beyond.first_beyond.Goals as goal

pub returns-in-Err : goal.returns-in-Err
returns-in-Err c = found-home c.args.blocks.now c.in-Err.fault (sym c.in-Err.ensures.value)
