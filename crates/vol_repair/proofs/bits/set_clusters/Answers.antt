use Rattle.std.proofs.Common.{◌∙◌, ◌+◌, ℕ, List, refl, sym, ap, subst}
use Rattle.std.proofs.lemmas.Result.{err_from_is_err_and}
use Rattle.base_words.specs.Fields.{Block}
use Rattle.vol_parts.specs.Volumes.{volume, bitmap_lbn}
use Rattle.vol_repair.specs.BitSteps.{IsBitTurn}
use Rattle.vol_repair.specs.Touched.{IsGround}
use Rattle.vol_repair.proofs.Stepping.{step_none, next_well, next_out, ends_well}
use Rattle.vol_repair.proofs.ClusterBits.{first_turn}
use Rattle.vol_repair.proofs.bits.set_clusters.Goals as goal

pub loop-k-init : goal.loop-k-init
loop-k-init g c = record {
  step = λ first old bits. step_none _ _ _ _ (λ n. n) bits.ground.touched;
  turn = λ first old bits.
      first_turn c.args.home.now first old c.args.m.now.blocks c.in_ok-counts.counts.items c.first_lbn-control.result c.requires.limits bits
      (c.in_ok-counts.ensures first (subst (λ (bs : List Block). IsGround c.args.home.now first bs) (sym c.all.ensures) bits.ground))
      (c.first_lbn-control.ensures ∙ ap (λ (bs : List Block). bitmap_lbn (volume c.args.home.now bs)) c.all-2.ensures);
}

pub returns-in_err-set_storage-clause-step : goal.returns-in_err-set_storage-clause-step
returns-in_err-set_storage-clause-step g c first old bits =
    let p = err_from_is_err_and c.from_residual-in_err-set_storage.result c.from_residual-in_err-set_storage.ensures.1 in
    let turn = subst (λ (cs : List ℕ). IsBitTurn c.args.home.now first old c.loop-k.m.blocks cs c.first_lbn-control.result c.loop-k.k) (sym c.deref.ensures.value) (c.loop-k.invariant.turn first old bits) in
    next_out _ _ _ _ _ _ _ _ _ _ _ _ _ refl p.1 p.2 (c.loop-k.invariant.step first old bits) (c.in_err-set_storage.ensures.step first old turn)

pub loop-k-preserved : goal.loop-k-preserved
loop-k-preserved g c = record {
  step = λ first old bits.
      let turn = subst (λ (cs : List ℕ). IsBitTurn c.args.home.now first old c.loop-k.m.blocks cs c.first_lbn-control.result c.loop-k.k) (sym c.deref.ensures.value) (c.loop-k.invariant.turn first old bits) in
      next_well _ _ _ _ _ _ _ _ _ _ _ refl (c.loop-k.invariant.step first old bits) (c.in_ok-set_storage.ensures.step first old turn);
  turn = λ first old bits.
      let turn = subst (λ (cs : List ℕ). IsBitTurn c.args.home.now first old c.loop-k.m.blocks cs c.first_lbn-control.result c.loop-k.k) (sym c.deref.ensures.value) (c.loop-k.invariant.turn first old bits) in
      subst (λ (cs : List ℕ). IsBitTurn c.args.home.now first old c.set_storage.new.m.blocks cs c.first_lbn-control.result (c.loop-k.k + 1)) c.deref.ensures.value (c.in_ok-set_storage.ensures.ok first old turn);
}

pub returns-clause-step : goal.returns-clause-step
returns-clause-step g c first old bits = ends_well _ _ _ _ _ _ _ _ refl (c.loop-k.invariant.step first old bits)
