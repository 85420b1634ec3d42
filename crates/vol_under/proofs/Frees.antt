-- Writes in turn to blocks outside, and to the storage bitmap.
use Rattle.std.proofs.Common.{ℕ, List, [], ◌∷◌, slice_set, refl, sym, subst, inl, inr}
use Rattle.plain_cat.specs.declared.history.Stage.{Stage}
use Rattle.vol_spell.specs.Owners.{Owners, IsSpaceMove, Things, Outs}
use Rattle.vol_spell.proofs.Moving.{moves_grow}
use Rattle.vol_spell.proofs.Handing.{out_swaps}
use Rattle.vol_under.specs.Guards.{IsCommandMove}
use Rattle.vol_under.specs.UnderWay.{StandsAt}
use Rattle.vol_under.specs.Chains.{End}
use Rattle.vol_under.specs.Freeing.{OutsideSeries, RefillStep, FreeSeries}
use Rattle.vol_under.proofs.Guarding.{space_command}
use Rattle.vol_under.proofs.Refills.{gives_clusters}
use Rattle.vol_under.proofs.Reach.{step_kinds}

pub outside_series : (end : End) → OutsideSeries end
outside_series end g n cmd locks c x stock o s [] ws bs own spelt at outs all rest = rest spelt
outside_series end g n cmd locks c x stock o s (v ∷ vs) ws bs own spelt at outs all rest =
    let h = all v (inl refl) in
    let stage : StandsAt c n cmd v.stage x = subst (λ (k : Stage). StandsAt c n cmd k x) (sym h.stage) at in
    let out : Outs n own v.outs stock = subst (λ (z : Things). Outs n own z stock) (sym h.outs) outs in
    let step = (step_kinds g n cmd locks c stock).outside v bs own x spelt h.whole h.owner stage out in
    (own, x, step, outside_series end g n cmd locks c x stock o s vs ws (slice_set bs v.lbn v.block) own step.spelt at outs (λ w t. all w (inr t)) rest)

pub swapped : (n : ℕ) (own : Owners) (a b : Things) → Outs n own a b → Outs n own b a
swapped n own a b h = record { clusters = out_swaps n own.clusters a.clusters b.clusters h.clusters; numbers = out_swaps n own.numbers a.numbers b.numbers h.numbers }

-- what the space rule would do with the stock, a command may do with what it took
pub refill_step : RefillStep
refill_step g n cmd locks c x stock o w bs own r stage same = record {
  stage = stage;
  spelt = r.spelt;
  moves = moves_grow (IsSpaceMove n) (IsCommandMove n locks) (space_command n locks) own r.new r.moves;
  outs = subst (λ (z : Things). Outs n r.new z stock) (sym same) (swapped n r.new stock o r.outs);
}

pub free_series : (end : End) → FreeSeries end
free_series end g n cmd locks c x stock s numbers left kept [] ws bs own spelt at outs e rest = rest own spelt (subst (λ (qs : List ℕ). Outs n own (record { clusters = qs; numbers = numbers }) stock) e outs)
free_series end g n cmd locks c x stock s numbers left kept (v ∷ vs) ws bs own spelt at outs frees rest =
    let f = frees.1 in
    let took : Things = record { clusters = left; numbers = numbers } in
    let r = gives_clusters g n stock took f.place v.lbn f.freed frees.0 f.old v.block bs own x spelt (swapped n own took stock outs) f.part f.at f.parts f.once f.given in
    let stage : StandsAt c n cmd v.stage x = subst (λ (k : Stage). StandsAt c n cmd k x) (sym f.stage) at in
    let step = refill_step g n cmd locks c x stock (record { clusters = frees.0; numbers = numbers }) v bs own r stage f.outs in
    (r.new, x, step, free_series end g n cmd locks c x stock s numbers frees.0 kept vs ws (slice_set bs v.lbn v.block) r.new r.spelt at (swapped n r.new stock (record { clusters = frees.0; numbers = numbers }) r.outs) frees.2 rest)
