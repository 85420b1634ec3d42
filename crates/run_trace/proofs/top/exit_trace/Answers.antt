use Rattle.std.proofs.Common.{◌∙◌, ℕ, List, subst, refl}
use Rattle.std.specs.Process.{exit_status}
use Rattle.run_engine.specs.declared.status.Status.TheVariants as status
use Rattle.run_engine.proofs.Given.{any_script, image_stays}
use Rattle.run_trace.specs.Traced.{IsTraceEnd}
use Rattle.run_trace.proofs.Telling.{lacking_call}
use Rattle.run_trace.proofs.top.exit_trace.Goals as goal

pub returns-in-Ok : goal.returns-in-Ok
returns-in-Ok g c =
    let P : List (List ℕ) → Type 0 = λ words. IsTraceEnd (record {
      words = words;
      left = g.T.TextIn.left c.args.script.now;
      size = g.I.ImageDev.size c.args.image;
      told = g.I.ImageDev.told c.args.image;
      written = g.O.TextOut.written c.args.out.now;
      script_faults = g.T.TextIn.faults c.args.script.now;
      image_faults = g.I.ImageDev.faults c.args.image;
      image_lost = g.I.ImageDev.lost c.args.image;
      out_faults = g.O.TextOut.faults c.args.out.now;
    }) (g.O.TextOut.written c.vmstrace-finished.new.out) (g.I.ImageDev.told c.vmstrace-finished.result.image) (g.T.TextIn.faults c.vmstrace-finished.new.script) (g.I.ImageDev.faults c.vmstrace-finished.result.image) (g.O.TextOut.faults c.vmstrace-finished.new.out) (exit_status c.exit_code-code.result) in
    subst P (c.as_slice.ensures.value ∙ c.in-Ok.ensures) (record { status = c.vmstrace-finished.result.status; number_is = c.exit_code-code.ensures; call = c.vmstrace-finished.ensures })

pub returns-in-Err : goal.returns-in-Err
returns-in-Err g c = record {
  status = status.NoMemory;
  number_is = c.no_memory-code.ensures.number;
  call = any_script (g.T.TextIn.left c.args.script.now) _
      (λ bytes. image_stays (g.I.ImageDev.size c.args.image) (g.I.ImageDev.told c.args.image) (g.I.ImageDev.told c.args.image) _ (g.met.I.ImageDev.counted c.args.image) refl
      (λ bs count. lacking_call _ bytes (g.I.ImageDev.size c.args.image) bs _ _ _ _ _ _ _ _ c.no_memory-code.ensures.text));
}
