use Rattle.std.proofs.Common.{refl, arith}
use Rattle.std.proofs.lemmas.Result.{err_from_is_err_and}
use Rattle.vol_rebuild.proofs.Stepping.{step_none, next_well, next_out, ends_well}
use Rattle.vol_rebuild.proofs.Surpluses.{cut_more}
use Rattle.vol_rebuild.proofs.surplus.cut_files.Goals as goal

pub loop-n-init : goal.loop-n-init
loop-n-init g c = record {
  step = step_none _ _ _ _ (λ n. n);
  told = λ x t. t;
  singles = λ i is h. h;
  cut = λ i from to. absurd (omega (arith, from, to));
}

pub cut_file-requires-clause-told : goal.cut_file-requires-clause-told
cut_file-requires-clause-told g c = (c.requires.told.0, c.loop-n.invariant.told c.requires.told.0 c.requires.told.1)

pub returns-in_err-cut_file-clause-step : goal.returns-in_err-cut_file-clause-step
returns-in_err-cut_file-clause-step g c =
    let p = err_from_is_err_and c.from_residual.result c.from_residual.ensures.1 in
    next_out _ _ _ _ _ _ _ _ _ _ _ _ _ refl p.1 p.2 c.loop-n.invariant.step c.in_err-cut_file.ensures.step

pub loop-n-preserved : goal.loop-n-preserved
loop-n-preserved g c =
    let x = c.requires.told.0 in
    let here = c.in_ok-cut_file.ensures.ok x (c.loop-n.invariant.told x c.requires.told.1) in
    record {
      step = next_well _ _ _ _ _ _ _ _ _ _ _ refl c.loop-n.invariant.step c.in_ok-cut_file.ensures.step;
      told = λ y t. (c.in_ok-cut_file.ensures.ok y (c.loop-n.invariant.told y t)).told;
      singles = λ i is h. here.singles i is (c.loop-n.invariant.singles i is h);
      cut = cut_more c.args.g.now c.loop-n.m.blocks c.cut_file.new.m.blocks x c.loop-n.n c.loop-n.invariant.cut here;
    }

pub returns-clause-step : goal.returns-clause-step
returns-clause-step g c = ends_well _ _ _ _ _ _ _ _ refl c.loop-n.invariant.step

pub returns-clause-ok : goal.returns-clause-ok
returns-clause-ok g c x t = record {
  told = c.loop-n.invariant.told x t;
  singles = c.loop-n.invariant.singles;
  cut = λ n is. let to = is.to in let done = c.loop-n-test.false in c.loop-n.invariant.cut n is.from (omega (arith, to, done)) is.to;
}
