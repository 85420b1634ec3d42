use Rattle.std.proofs.Common.{◌≡◌, ◌++◌, take}
use Rattle.std.specs.Prelude.{flat_map}
use Rattle.run_trace.specs.Texts.{kept_text}
use Rattle.run_trace.proofs.texts.push_kept.Given as goal

abbrev pub invariant-loop-lock : goal.invariant-loop-lock
invariant-loop-lock l = l.out.items ≡ l.fn.out.items ++ flat_map kept_text (take l.lock-index l.kept)
