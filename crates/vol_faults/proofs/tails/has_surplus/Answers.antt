use Rattle.std.proofs.Common.{◌∙◌, sym}
use Rattle.vol_parts.specs.Volumes.{volume}
use Rattle.vol_faults.proofs.TailLemmas.{surplus-of-file, surplus-of-none}
use Rattle.vol_faults.proofs.tails.has_surplus.Goals as goal

pub returns-in-Some : goal.returns-in-Some
returns-in-Some c =
    c.goes_on.ensures ∙ surplus-of-file (volume c.args.home.now c.args.blocks.now) c.args.n c.in-Some.f (sym c.fields.ensures ∙ c.in-Some.is)

pub returns-in-None : goal.returns-in-None
returns-in-None c = surplus-of-none (volume c.args.home.now c.args.blocks.now) c.args.n (sym c.fields.ensures ∙ c.in-None.is)
