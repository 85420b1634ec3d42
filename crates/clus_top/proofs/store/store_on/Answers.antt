use Rattle.std.proofs.Common.{List, subst}
use Rattle.base_words.specs.Fields.{Block}
use Rattle.run_engine.proofs.Results.{err_is}
use Rattle.clus_top.specs.Ends.{IsJudgedEnd}
use Rattle.clus_top.proofs.Keeping.{judged_left}
use Rattle.clus_top.proofs.store.store_on.Goals as goal

pub returns-in-Err-clause-end : goal.returns-in-Err-clause-end
returns-in-Err-clause-end g c =
    judged_left c.args.n c.args.seq c.args.lines.now (g.I.ImageDev.told c.args.m.now.image) c.args.m.now.blocks _ _ c.in-Err.status c.requires.inside c.requires.told
    (subst (λ (bs : List Block). IsJudgedEnd bs c.in-Err.status) c.all.ensures (err_is c.judge.result c.in-Err.status _ c.in-Err.is c.judge.ensures.end))
