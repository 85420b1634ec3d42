use Rattle.std.proofs.Common.{ℕ, List, refl, sym, subst, arith}
use Rattle.std.proofs.lemmas.Result.{err_from_is_err_and}
use Rattle.plain_cat.specs.declared.cat.Cat.{Cat}
use Rattle.base_words.specs.Fields.{Block}
use Rattle.vol_mends.specs.Told.{IsTold}
use Rattle.vol_rebuild.specs.Space.{IsCounted, IsSpaceSet}
use Rattle.vol_rebuild.proofs.Stepping.{step_none, next_well, next_out, ends_well}
use Rattle.vol_rebuild.proofs.Spacing.{set_more, none_leaked}
use Rattle.vol_rebuild.proofs.bits.set_space.Goals as goal

pub loop-k-init : goal.loop-k-init
loop-k-init g c = record {
  step = step_none _ _ _ _ (λ n. n);
  counted = λ x t. subst (λ (bs : List Block). IsCounted c.args.g.now c.in_ok-home.home c.in_ok-home.counts.items bs x) c.all.ensures (c.in_ok-home.ensures c.args.g.now x (subst (λ (bs : List Block). IsTold c.args.g.now bs x) (sym c.all.ensures) t));
  set = λ q lt to. absurd (omega (arith, to));
  singles = λ i is h. h;
  clean = λ k. k;
}

pub returns-in_err-set_storage-clause-step : goal.returns-in_err-set_storage-clause-step
returns-in_err-set_storage-clause-step g c =
    let p = err_from_is_err_and c.from_residual-in_err-set_storage.result c.from_residual-in_err-set_storage.ensures.1 in
    next_out _ _ _ _ _ _ _ _ _ _ _ _ _ refl p.1 p.2 c.loop-k.invariant.step c.in_err-set_storage.ensures.step

pub set_storage-requires-clause-counted : goal.set_storage-requires-clause-counted
set_storage-requires-clause-counted g c = (c.requires.told.0, subst (λ (cs : List ℕ). IsCounted c.args.g.now c.in_ok-home.home cs c.loop-k.m.blocks c.requires.told.0) (sym c.deref.ensures.value) (c.loop-k.invariant.counted c.requires.told.0 c.requires.told.1))

pub loop-k-preserved : goal.loop-k-preserved
loop-k-preserved g c =
    let x = c.requires.told.0 in
    let set = subst (λ (cs : List ℕ). (y : Cat) → IsCounted c.args.g.now c.in_ok-home.home cs c.loop-k.m.blocks y → IsSpaceSet c.args.g.now c.in_ok-home.home cs c.loop-k.m.blocks c.set_storage.new.m.blocks y c.loop-k.k) c.deref.ensures.value c.in_ok-set_storage.ensures.ok in
    let here = set x (c.loop-k.invariant.counted x c.requires.told.1) in
    record {
      step = next_well _ _ _ _ _ _ _ _ _ _ _ refl c.loop-k.invariant.step c.in_ok-set_storage.ensures.step;
      counted = λ y t. (set y (c.loop-k.invariant.counted y t)).counted;
      set = λ q lt to. set_more c.args.g.now _ _ c.loop-k.m.blocks c.set_storage.new.m.blocks x c.loop-k.k c.loop-k.invariant.set here q lt to;
      singles = λ i is h. here.singles i is (c.loop-k.invariant.singles i is h);
      clean = λ k. here.clean (c.loop-k.invariant.clean k);
    }

pub returns-clause-step : goal.returns-clause-step
returns-clause-step g c = ends_well _ _ _ _ _ _ _ _ refl c.loop-k.invariant.step

pub returns-clause-ok : goal.returns-clause-ok
returns-clause-ok g c x t = record {
  told = none_leaked c.args.g.now _ _ c.loop-k.m.blocks x (c.loop-k.invariant.counted x t) (λ q lt. c.loop-k.invariant.set q lt (omega (arith, lt)));
  singles = c.loop-k.invariant.singles;
  clean = c.loop-k.invariant.clean;
}
