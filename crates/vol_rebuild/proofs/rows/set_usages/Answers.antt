use Rattle.std.proofs.Common.{◌∙◌, refl, sym, arith}
use Rattle.std.proofs.lemmas.Result.{err_from_is_err_and}
use Rattle.plain_mends.proofs.Frames.{charge_same}
use Rattle.vol_rebuild.proofs.Stepping.{next_well, next_out, step_none, ends_well}
use Rattle.vol_rebuild.proofs.Usages.{right_more, all_sums}
use Rattle.vol_rebuild.proofs.rows.set_usages.Goals as goal

pub loop-k-init : goal.loop-k-init
loop-k-init g c = record {
  step = step_none _ _ _ _ (λ n. n);
  told = λ x files t. (x.quota, t);
  set = λ x files j lt. absurd (omega (arith, lt));
  singles = λ i is h. h;
  clean = λ k. k;
}

pub returns-in_err-set_quota-clause-step : goal.returns-in_err-set_quota-clause-step
returns-in_err-set_quota-clause-step g c =
    let p = err_from_is_err_and c.from_residual.result c.from_residual.ensures.1 in
    next_out _ _ _ _ _ _ _ _ _ _ _ _ _ refl p.1 p.2 c.loop-k.invariant.step c.in_err-set_quota.ensures.step

pub loop-k-preserved : goal.loop-k-preserved
loop-k-preserved g c =
    let start = c.requires.told in
    let first = c.loop-k.invariant.told start.0 start.1 start.2 in
    let here = c.in_ok-set_quota.ensures.ok (record start.0 { quota = first.0 }) (record { same = start.1.same; factor = start.1.factor }) first.1 in
    record {
      step = next_well _ _ _ _ _ _ _ _ _ _ _ refl c.loop-k.invariant.step c.in_ok-set_quota.ensures.step;
      told = λ x files t.
          let r = c.loop-k.invariant.told x files t in
          let s = c.in_ok-set_quota.ensures.ok (record x { quota = r.0 }) (record { same = files.same; factor = files.factor }) r.1 in
          (s.rows, s.told);
      set = λ x files j to.
          right_more c.args.g.now c.loop-k.m.blocks c.set_quota.new.m.blocks x (record start.0 { quota = first.0 }) c.loop-k.k
          (λ r. charge_same (record start.0 { quota = first.0 }) x (record { 0 = r.uic }) (start.1.same ∙ sym files.same) (start.1.factor ∙ sym files.factor))
          (c.loop-k.invariant.set x files) here j to;
      singles = λ i is h. here.singles i is (c.loop-k.invariant.singles i is h);
      clean = λ k. here.clean (c.loop-k.invariant.clean k);
    }

pub returns-clause-step : goal.returns-clause-step
returns-clause-step g c = ends_well _ _ _ _ _ _ _ _ refl c.loop-k.invariant.step

pub returns-clause-ok : goal.returns-clause-ok
returns-clause-ok g c x files told =
    let r = c.loop-k.invariant.told x files told in
    all_sums c.args.g.now c.args.m.now.blocks c.loop-k.m.blocks x r.0 r.1 (λ j lt. c.loop-k.invariant.set x files j (omega (arith, lt))) c.loop-k.invariant.singles c.loop-k.invariant.clean
