use Rattle.std.proofs.Common.{◌∙◌, Ok, List, sym, ap, subst}
use Rattle.std.proofs.lemmas.Result.{on_ok_weaker}
use Rattle.base_words.specs.Fields.{Block}
use Rattle.fx_header.specs.declared.slot.Slot.{Slot}
use Rattle.vol_parts.specs.Volumes.{fields_in}
use Rattle.vol_mends.proofs.Strays.{stray_is_freed}
use Rattle.vol_rebuild.specs.Tails.{IsSlotClear}
use Rattle.vol_rebuild.proofs.Tailing.{slot_blank, for_stray, slot_stays, slot_cleared}
use Rattle.vol_rebuild.proofs.tails.free_stray.Goals as goal

pub returns-then-filed-clause-ok : goal.returns-then-filed-clause-ok
returns-then-filed-clause-ok g c x t = slot_stays c.args.g.now c.args.m.now.blocks x c.args.n t (λ none. absurd (c.requires.filed c.if-filed.true none))

pub read-requires : goal.read-requires
read-requires g c = stray_is_freed.within c.args.g.now c.args.m.now.blocks c.requires.told.0 c.args.n c.requires.told.1 c.requires.number

pub make-requires-clause-inside : goal.make-requires-clause-inside
make-requires-clause-inside g c = stray_is_freed.within c.args.g.now c.args.m.now.blocks c.requires.told.0 c.args.n c.requires.told.1 c.requires.number

pub make-requires-clause-mends : goal.make-requires-clause-mends
make-requires-clause-mends g c =
    let x = c.requires.told.0 in
    let for = for_stray c.args.g.now c.args.m.now.blocks x c.args.n c.in-Ok-Used.f c.read.result.now c.free_slot-b.result c.requires.told.1 c.requires.number (c.requires.spare c.if-filed.false) c.read.ensures
    (sym c.read_header.ensures.value ∙ (c.in-Ok-Used.is ∙ ap (λ (x : Slot). Ok x) c.in-Ok-Used.field-0-is)) c.block_is_whole.ensures c.free_slot-b.ensures.reads in
    (stray_is_freed.leads c.args.g.now c.args.m.now.blocks x c.args.n c.in-Ok-Used.f c.free_slot-b.result for).leads.mends

pub returns-in-Ok-Used-clause-ok : goal.returns-in-Ok-Used-clause-ok
returns-in-Ok-Used-clause-ok g c x t =
    let for = for_stray c.args.g.now c.args.m.now.blocks x c.args.n c.in-Ok-Used.f c.read.result.now c.free_slot-b.result t c.requires.number (c.requires.spare c.if-filed.false) c.read.ensures
    (sym c.read_header.ensures.value ∙ (c.in-Ok-Used.is ∙ ap (λ (x : Slot). Ok x) c.in-Ok-Used.field-0-is)) c.block_is_whole.ensures c.free_slot-b.ensures.reads in
    let freed = slot_cleared c.args.g.now c.args.m.now.blocks _ x c.args.n (stray_is_freed.leads c.args.g.now c.args.m.now.blocks x c.args.n c.in-Ok-Used.f c.free_slot-b.result for) in
    on_ok_weaker c.make.result (λ e. subst (λ (bs : List Block). IsSlotClear c.args.g.now x c.args.m.now.blocks bs c.args.n) (sym e) freed) c.make.ensures.ok

pub returns-in-Ok-Free-clause-ok : goal.returns-in-Ok-Free-clause-ok
returns-in-Ok-Free-clause-ok g c x t =
    slot_stays c.args.g.now c.args.m.now.blocks x c.args.n t
    (λ none. slot_blank c.args.g.now c.args.m.now.blocks c.args.n c.read.result.now c.read.ensures (ap fields_in (sym c.read_header.ensures.value ∙ (c.in-Ok-Free.is ∙ ap (λ (x : Slot). Ok x) c.in-Ok-Free.field-0-is))))

pub returns-in-Err-clause-ok : goal.returns-in-Err-clause-ok
returns-in-Err-clause-ok g c x t =
    slot_stays c.args.g.now c.args.m.now.blocks x c.args.n t
    (λ none. slot_blank c.args.g.now c.args.m.now.blocks c.args.n c.read.result.now c.read.ensures (ap fields_in (sym c.read_header.ensures.value ∙ c.in-Err.is)))
