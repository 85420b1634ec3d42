use Rattle.std.proofs.Common.{sym, subst}
use Rattle.run_engine.proofs.Commands.{only_such}
use Rattle.run_engine.proofs.Results.{if_ok, if_err}
use Rattle.xqp_set.specs.Built.{IsBuilt}
use Rattle.xqp_set.proofs.Forms.{filled_built, close_built}
use Rattle.run_trace.specs.Inside.{IsEndText, IsEndOf}
use Rattle.run_trace.proofs.Traces.{traced_of_mounted, halt_of_mounted, mount_end}
use Rattle.run_trace.proofs.tracing.trace_mounted.Goals as goal

pub mount-requires-clause-taken : goal.mount-requires-clause-taken
mount-requires-clause-taken c = only_such IsBuilt filled_built close_built c.args.script.now c.requires.form

pub returns-in-Ok-clause-text : goal.returns-in-Ok-clause-text
returns-in-Ok-clause-text c =
    if_ok c.trace_on.result _ _ (λ text h. traced_of_mounted (IsEndText c.args.ending) c.args.m.blocks c.args.script.now c.in-Ok.world.world text.items c.in-Ok.ensures.world h) c.trace_on.ensures.text

pub returns-in-Ok-clause-halt : goal.returns-in-Ok-clause-halt
returns-in-Ok-clause-halt c =
    if_err c.trace_on.result _ _ (λ x h. halt_of_mounted c.args.ending c.args.m.blocks c.args.script.now c.in-Ok.world.world x c.in-Ok.ensures.world h) c.trace_on.ensures.halt

pub returns-clause-halt : goal.returns-clause-halt
returns-clause-halt c = subst (IsEndOf c.args.m.blocks) (sym c.mount_status.ensures) (mount_end c.args.m.blocks c.in-Err.field-0.fault c.in-Err.ensures.end)
