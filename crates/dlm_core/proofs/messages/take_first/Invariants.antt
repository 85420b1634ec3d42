use Rattle.std.proofs.Common.{◌≡◌, find, take, None}
use Rattle.dlm_core.specs.States.{is_between}
use Rattle.dlm_core.proofs.messages.take_first.Given as goal

abbrev pub invariant-loop-i : goal.invariant-loop-i
invariant-loop-i l = record { none : find (is_between l.from l.to) (take l.i l.fn.mail.items) ≡ None; same : l.mail.items ≡ l.fn.mail.items }
