use Rattle.std.proofs.Common.{◌∙◌, ◌<◌, List, length, ap, sym, subst, arith}
use Rattle.std.specs.Prelude.{slice_set}
use Rattle.std.proofs.lemmas.Result.{on_ok_weaker, on_err_weaker}
use Rattle.base_words.specs.Fields.{Block}
use Rattle.vol_init.specs.Made.{IsMade}
use Rattle.vol_init.proofs.MadeLemmas.{made, left-first, left-cleared, left-last, told-cleared, still-cleared, always}
use Rattle.vol_init.proofs.making.make.Goals as goal

pub returns-in_err-write-clause-fault : goal.returns-in_err-write-clause-fault
returns-in_err-write-clause-fault g c = λ e.
    let some : 1 < length c.args.m.now.blocks = omega (arith, c.requires.blocks, c.requires.plan.limits.blocks_low) in
    always _ _ (left-first _ _ c.zeros-cleared.result _ _ c.zeros-cleared.ensures e some c.in_err-write.ensures.failed)

pub returns-in_err-put_parts-clause-fault : goal.returns-in_err-put_parts-clause-fault
returns-in_err-put_parts-clause-fault g c = λ e.
    let some : 1 < length c.args.m.now.blocks = omega (arith, c.requires.blocks, c.requires.plan.limits.blocks_low) in
    let told = told-cleared _ _ c.zeros-cleared.result _ _ e c.in_ok-write.ensures.image c.in_ok-write.ensures.ok in
    let cleared = still-cleared _ _ c.zeros-cleared.result _ _ c.zeros-cleared.ensures told c.in_ok-write.ensures.ok some c.in_err-put_parts.ensures.home in
    always _ _ (left-cleared _ _ _ cleared)

pub returns-clause-ok : goal.returns-clause-ok
returns-clause-ok g c =
    let old = c.args.m.now.blocks in
    let p = c.args.plan.now in
    let some : 1 < length old = omega (arith, c.requires.blocks, c.requires.plan.limits.blocks_low) in
    let zeroed = c.in_ok-write.ensures.ok ∙ ap (λ z. slice_set old 1 z) c.zeros-cleared.ensures in
    let whole = made p old c.write.new.self.blocks c.put_parts.new.m.blocks c.home_block-home.result c.requires.plan c.requires.blocks some zeroed
    c.in_ok-put_parts.ensures.there c.in_ok-put_parts.ensures.low c.in_ok-put_parts.ensures.count c.home_block-home.ensures.bytes c.home_block-home.ensures.reads_back in
    let P : List Block → Type 0 = λ bs. IsMade p.home old bs in
    on_ok_weaker c.write-2.result (λ e. subst P (sym e) whole) c.write-2.ensures.ok

pub returns-clause-fault : goal.returns-clause-fault
returns-clause-fault g c = λ e.
    let old = c.args.m.now.blocks in
    let p = c.args.plan.now in
    let some : 1 < length old = omega (arith, c.requires.blocks, c.requires.plan.limits.blocks_low) in
    let zeroed = c.in_ok-write.ensures.ok ∙ ap (λ z. slice_set old 1 z) c.zeros-cleared.ensures in
    let whole = made p old c.write.new.self.blocks c.put_parts.new.m.blocks c.home_block-home.result c.requires.plan c.requires.blocks some zeroed
    c.in_ok-put_parts.ensures.there c.in_ok-put_parts.ensures.low c.in_ok-put_parts.ensures.count c.home_block-home.ensures.bytes c.home_block-home.ensures.reads_back in
    let told = told-cleared _ _ c.zeros-cleared.result _ _ e c.in_ok-write.ensures.image c.in_ok-write.ensures.ok in
    let cleared = still-cleared _ _ c.zeros-cleared.result _ _ c.zeros-cleared.ensures told c.in_ok-write.ensures.ok some c.in_ok-put_parts.ensures.home in
    on_err_weaker c.write-2.result (left-last p.home old c.put_parts.new.m.blocks c.home_block-home.result _ _ (c.in_ok-put_parts.ensures.image told) cleared whole) c.write-2.ensures.failed
