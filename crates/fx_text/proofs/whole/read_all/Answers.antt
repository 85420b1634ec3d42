use Rattle.std.proofs.KnownBytes.{Consumes-trans}
use Rattle.fx_text.proofs.Streams.{IsRest-consumed}
use Rattle.fx_text.proofs.whole.read_all.Goals as goal

pub returns-then-limit-len-clause-rest : goal.returns-then-limit-len-clause-rest
returns-then-limit-len-clause-rest g c =
    IsRest-consumed _ _ _ (Consumes-trans _ _ _ _ _ c.loop-all.invariant.taken c.in_ok-n.ensures.bytes.0)
