use Rattle.std.proofs.Common.{◌≡◌, ◌++◌}
use Rattle.run_trace.specs.Texts.{holders_text}
use Rattle.run_trace.proofs.texts.push_holders.Given as goal

abbrev pub invariant-loop-other : goal.invariant-loop-other
invariant-loop-other l = l.out.items ≡ l.fn.out.items ++ holders_text l.locks l.name l.node l.other
