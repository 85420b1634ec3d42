use Rattle.std.proofs.Common.{◌≡◌, take}
use Rattle.run_engine.proofs.telling.findings_text.Given as goal
use Rattle.run_engine.specs.Texts.{findings_text}

abbrev pub invariant-loop-found : goal.invariant-loop-found
invariant-loop-found l = l.text.items ≡ findings_text (take l.found-index l.findings)
