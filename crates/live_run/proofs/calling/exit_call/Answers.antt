use Rattle.std.proofs.Common.{◌∙◌, ℕ, List, subst, refl}
use Rattle.std.specs.Process.{exit_status}
use Rattle.run_engine.specs.declared.status.Status.TheVariants as status
use Rattle.run_engine.proofs.Given.{any_script, image_stays}
use Rattle.live_run.specs.Calls.{IsEnd}
use Rattle.live_run.proofs.Told.{lacking_call}
use Rattle.live_run.proofs.calling.exit_call.Goals as goal

pub returns-in-Ok : goal.returns-in-Ok
returns-in-Ok g c =
    let P : List (List ℕ) → Type 0 = λ words. IsEnd (record {
      words = words;
      left = g.T.TextIn.left c.args.script.now;
      size = g.I.ImageDev.size c.args.image;
      told = g.I.ImageDev.told c.args.image;
      written = g.O.TextOut.written c.args.out.now;
      script_faults = g.T.TextIn.faults c.args.script.now;
      image_faults = g.I.ImageDev.faults c.args.image;
      image_lost = g.I.ImageDev.lost c.args.image;
      out_faults = g.O.TextOut.faults c.args.out.now;
    }) (g.O.TextOut.written c.vmsclus_live-finished.new.out) (g.I.ImageDev.told c.vmsclus_live-finished.result.image) (g.T.TextIn.faults c.vmsclus_live-finished.new.script) (g.I.ImageDev.faults c.vmsclus_live-finished.result.image) (g.I.ImageDev.lost c.vmsclus_live-finished.result.image) (g.O.TextOut.faults c.vmsclus_live-finished.new.out) (exit_status c.exit_code-code.result) in
    subst P (c.as_slice.ensures.value ∙ c.in-Ok.ensures) (record { status = c.vmsclus_live-finished.result.status; number_is = c.exit_code-code.ensures; call = c.vmsclus_live-finished.ensures })

pub returns-in-Err : goal.returns-in-Err
returns-in-Err g c = record {
  status = status.NoMemory;
  number_is = c.no_memory-code.ensures.number;
  call = any_script (g.T.TextIn.left c.args.script.now) _
      (λ bytes. image_stays (g.I.ImageDev.size c.args.image) (g.I.ImageDev.told c.args.image) (g.I.ImageDev.told c.args.image) _ c.blocks_are_counted.ensures refl
      (λ bs count. lacking_call _ bytes (g.I.ImageDev.size c.args.image) bs _ _ _ _ _ _ _ _ _ _ c.no_memory-code.ensures.text));
}
