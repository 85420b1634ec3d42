use Rattle.std.proofs.Common.{◌∙◌, List, sym, ap, subst, arith}
use Rattle.std.specs.Option.{option_copied}
use Rattle.base_words.specs.Fields.{Block}
use Rattle.plain_cat.specs.declared.cat.Cat.{Cat}
use Rattle.plain_rules.specs.Changes.{freed}
use Rattle.vol_mends.specs.Told.{KeepsSingles}
use Rattle.vol_rebuild.specs.Steps.{leaking, TellsFiles}
use Rattle.vol_rebuild.proofs.Reading.{in_geometry, number}
use Rattle.vol_rebuild.proofs.Freeing.{slot_on, slot_goes}
use Rattle.vol_rebuild.proofs.slots.free.Goals as goal

pub overflow_mul-g : goal.overflow_mul-g
overflow_mul-g g c =
    let t = c.requires.told in
    let k = (in_geometry c.args.g.now c.args.m.now.blocks (leaking c.args.cat.now t.leaked t.flags) t.told).cluster_to in
    omega (arith, k)

pub overflow_add-g : goal.overflow_add-g
overflow_add-g g c =
    let t = c.requires.told in
    let x = leaking c.args.cat.now t.leaked t.flags in
    let k = (in_geometry c.args.g.now c.args.m.now.blocks x t.told).cluster_to in
    let n = (number c.args.g.now c.args.m.now.blocks x t.told c.args.n c.requires.gone.file c.requires.gone.at).to in
    let f = (in_geometry c.args.g.now c.args.m.now.blocks x t.told).files_to in
    omega (arith, k, n, f)

pub make-requires-clause-inside : goal.make-requires-clause-inside
make-requires-clause-inside g c =
    slot_on c.args.g.now c.args.m.now.blocks c.args.cat.now c.args.n c.in-Some.file.now c.free_slot-b.result c.requires.told c.requires.gone (sym c.file_at.ensures ∙ ap option_copied c.in-Some.is) c.block_is_whole.ensures c.free_slot-b.ensures.reads

pub make-requires-clause-mends : goal.make-requires-clause-mends
make-requires-clause-mends g c =
    (slot_goes c.args.g.now c.args.m.now.blocks c.args.cat.now c.args.n c.in-Some.file.now c.free_slot-b.result c.requires.told c.requires.gone (sym c.file_at.ensures ∙ ap option_copied c.in-Some.is) c.block_is_whole.ensures c.free_slot-b.ensures.reads).mends

pub returns-clause-told : goal.returns-clause-told
returns-clause-told g c =
    let at = sym c.file_at.ensures ∙ ap option_copied c.in-Some.is in
    let goes = slot_goes c.args.g.now c.args.m.now.blocks c.args.cat.now c.args.n c.in-Some.file.now c.free_slot-b.result c.requires.told c.requires.gone at c.block_is_whole.ensures c.free_slot-b.ensures.reads in
    subst (λ (x : Cat). TellsFiles c.args.g.now c.make.new.m.blocks x) (sym (c.leave.ensures c.in-Some.file.now at))
    (subst (λ (bs : List Block). TellsFiles c.args.g.now bs (freed c.args.cat.now c.args.n c.in-Some.file.now)) (sym c.in_ok-make.ensures.ok) goes.told)

pub returns-clause-singles : goal.returns-clause-singles
returns-clause-singles g c =
    let goes = slot_goes c.args.g.now c.args.m.now.blocks c.args.cat.now c.args.n c.in-Some.file.now c.free_slot-b.result c.requires.told c.requires.gone (sym c.file_at.ensures ∙ ap option_copied c.in-Some.is) c.block_is_whole.ensures c.free_slot-b.ensures.reads in
    subst (λ (bs : List Block). KeepsSingles c.args.g.now c.args.m.now.blocks bs) (sym c.in_ok-make.ensures.ok) goes.singles
