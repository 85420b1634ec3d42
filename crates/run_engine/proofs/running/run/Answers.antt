use Rattle.std.proofs.Common.{◌≡◌, ◌∙◌, ℕ, List, Err, sym, ap, subst, inl, inr}
use Rattle.std.proofs.lemmas.Result.{err_from_is_err_and}
use Rattle.run_engine.specs.declared.fault.RunFault.TheVariants as run
use Rattle.run_engine.specs.Walks.{IsNextIn, IsBeforeWrite, IsBeforeTaking}
use Rattle.run_engine.proofs.Driving.{told_well, told_on}
use Rattle.run_engine.proofs.Staying.{played_stays, walk_stays}
use Rattle.run_engine.proofs.Stopping.{image_fault, no_memory, by_play, by_turn, taking_by_play, taking_by_turn}
use Rattle.run_engine.proofs.Ending.{over_is_whole}
use Rattle.run_engine.proofs.Enough.{budget_played}
use Rattle.run_engine.proofs.running.run.Goals as goal

pub rotate-requires : goal.rotate-requires
rotate-requires g c =
    c.budget_of-budget.ensures ∙ budget_played c.args.w.now.world c.play_all.new.w.world c.items.result.now c.in_ok-play_all.ensures.played

pub returns-in_err-play_all-clause-stays : goal.returns-in_err-play_all-clause-stays
returns-in_err-play_all-clause-stays g c = played_stays c.args.w.now.world c.items.result.now c.play_all.new.w.world c.in_err-play_all.ensures.part

pub returns-in_err-rotate-clause-stays : goal.returns-in_err-rotate-clause-stays
returns-in_err-rotate-clause-stays g c = walk_stays c.args.w.now.world c.play_all.new.w.world c.rotate.new.w.world c.items.result.now c.in_ok-play_all.ensures.played (c.rotate.ensures.turns.turns, c.rotate.ensures.turns.at)

pub returns-clause-whole : goal.returns-clause-whole
returns-clause-whole g c = over_is_whole c.rotate.new.w.world c.keeps_the_rules.ensures.good c.in_ok-rotate.ensures.over

pub returns-clause-stays : goal.returns-clause-stays
returns-clause-stays g c = walk_stays c.args.w.now.world c.play_all.new.w.world c.rotate.new.w.world c.items.result.now c.in_ok-play_all.ensures.played (c.rotate.ensures.turns.turns, c.rotate.ensures.turns.at)

pub returns-in_err-play_all-clause-before : goal.returns-in_err-play_all-clause-before
returns-in_err-play_all-clause-before g c e =
    let p = err_from_is_err_and c.from_residual.result c.from_residual.ensures.1 in
    let f : p.0 ≡ run.ImageFault = cc in
    let old = c.args.w.now.world in
    let new = c.play_all.new.w.world in
    subst (λ (ns : List ℕ). IsBeforeWrite (IsNextIn old ns new) old.blocks (g.I.ImageDev.told c.args.w.now.image) (g.I.ImageDev.told c.play_all.new.w.image) new) c.items.ensures
    (by_play old c.items.result.now old.blocks _ _ new (c.in_err-play_all.ensures.before (ap Err (image_fault c.in_err-play_all.field-0.0 (sym p.2 ∙ f)))))

pub returns-in_err-rotate-clause-before : goal.returns-in_err-rotate-clause-before
returns-in_err-rotate-clause-before g c e =
    let p = err_from_is_err_and c.from_residual-in_err-rotate.result c.from_residual-in_err-rotate.ensures.1 in
    let f : p.0 ≡ run.ImageFault = cc in
    let old = c.args.w.now.world in
    let new = c.rotate.new.w.world in
    subst (λ (ns : List ℕ). IsBeforeWrite (IsNextIn old ns new) old.blocks (g.I.ImageDev.told c.args.w.now.image) (g.I.ImageDev.told c.rotate.new.w.image) new) c.items.ensures
    (by_turn _ old c.play_all.new.w.world c.items.result.now old.blocks _ _ _ new c.in_ok-play_all.ensures.played c.in_ok-play_all.ensures.drive (λ q. cc) (c.in_err-rotate.ensures.before (ap Err (sym p.2 ∙ f))))

pub returns-in_err-play_all-clause-memory : goal.returns-in_err-play_all-clause-memory
returns-in_err-play_all-clause-memory g c e =
    let p = err_from_is_err_and c.from_residual.result c.from_residual.ensures.1 in
    let f : p.0 ≡ run.NoMemory = cc in
    let old = c.args.w.now.world in
    let new = c.play_all.new.w.world in
    subst (λ (ns : List ℕ). IsBeforeTaking (IsNextIn old ns new) new) c.items.ensures
    (taking_by_play old c.items.result.now new (c.in_err-play_all.ensures.memory (ap Err (no_memory c.in_err-play_all.field-0.0 (sym p.2 ∙ f)))))

pub returns-in_err-rotate-clause-memory : goal.returns-in_err-rotate-clause-memory
returns-in_err-rotate-clause-memory g c e =
    let p = err_from_is_err_and c.from_residual-in_err-rotate.result c.from_residual-in_err-rotate.ensures.1 in
    let f : p.0 ≡ run.NoMemory = cc in
    let old = c.args.w.now.world in
    let new = c.rotate.new.w.world in
    subst (λ (ns : List ℕ). IsBeforeTaking (IsNextIn old ns new) new) c.items.ensures
    (taking_by_turn old c.play_all.new.w.world c.items.result.now new c.in_ok-play_all.ensures.played (c.in_err-rotate.ensures.memory (ap Err (sym p.2 ∙ f))))

pub returns-in_err-rotate-clause-drive : goal.returns-in_err-rotate-clause-drive
returns-in_err-rotate-clause-drive g c t =
    let p = err_from_is_err_and c.from_residual-in_err-rotate.result c.from_residual-in_err-rotate.ensures.1 in
    let mid = told_well _ _ _ (c.in_ok-play_all.ensures.drive t) (λ q. cc) in
    elim (told_on _ (g.I.ImageDev.told c.args.w.now.image) (g.I.ImageDev.told c.play_all.new.w.image) (g.I.ImageDev.told c.rotate.new.w.image) c.play_all.new.w.world.blocks c.rotate.new.w.world.blocks mid c.in_err-rotate.ensures.drive) [
      | inl h ↦ inl h
      | inr q ↦ inr (p.1 ∙ (ap Err p.2 ∙ q))
    ]
