use Rattle.op_steps.specs.Seeing.{file_seen}
use Rattle.op_steps.proofs.Links.{IsAlong}
use Rattle.op_steps.proofs.chains.links_seen.Given as goal

abbrev pub invariant-loop : goal.invariant-loop
invariant-loop l = IsAlong l.g l.mode l.count (file_seen l.g l.f) l.rest l.counter l.last l.behind
