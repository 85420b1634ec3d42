use Rattle.std.proofs.Common.{◌∙◌, length, sym, ap, subst, arith}
use Rattle.fx_dir.specs.Entries.{has}
use Rattle.fx_dir.specs.Writing.{IsInForm}
use Rattle.fx_dir.specs.Pieces.{insertion_by}
use Rattle.fx_dir.proofs.Based.{long-from}
use Rattle.fx_dir.proofs.Entering.{Packed, before-long, after-long, there, entered, law}
use Rattle.fx_dir.proofs.Seeing.{as_new-form, has-as_new}
use Rattle.fx_dir.proofs.moves.insert_into.Goals as goal

pub pack_both-requires-clause-form : goal.pack_both-requires-clause-form
pack_both-requires-clause-form c = subst IsInForm (sym c.as_new-new.ensures) (as_new-form c.args.es.now c.args.e.now c.requires.form)

pub pack_both-requires-clause-absent : goal.pack_both-requires-clause-absent
pack_both-requires-clause-absent c = ap (has c.args.es.now) c.as_new-new.ensures ∙ has-as_new c.args.es.now c.args.es.now c.args.e.now ∙ c.requires.new

pub insert_writes-requires-clause-left : goal.insert_writes-requires-clause-left
insert_writes-requires-clause-left c =
    let b = c.in_ok-before.field-0 in
    let p : Packed c.args.old.now c.args.es.now c.args.e.now c.as_new-new.result b.before.blocks.items b.after.blocks.items b.after.left b.lacking.at b.lacking.block = record { entry = c.as_new-new.ensures; blocks = c.in_ok-before.ensures.before; packed = c.in_ok-before.ensures.after; ranged = c.in_ok-before.ensures.ranged; over_is = c.in_ok-before.ensures.left; place_is = c.in_ok-before.ensures.at; lacking = c.in_ok-before.ensures.block } in
    ap length c.as_slice.ensures.value ∙ before-long c.args.old.now c.args.es.now c.args.e.now _ b.before.blocks.items b.after.blocks.items b.after.left b.lacking.at b.lacking.block p c.requires.read (omega arith)

pub insert_writes-requires-clause-new : goal.insert_writes-requires-clause-new
insert_writes-requires-clause-new c =
    let b = c.in_ok-before.field-0 in
    let p : Packed c.args.old.now c.args.es.now c.args.e.now c.as_new-new.result b.before.blocks.items b.after.blocks.items b.after.left b.lacking.at b.lacking.block = record { entry = c.as_new-new.ensures; blocks = c.in_ok-before.ensures.before; packed = c.in_ok-before.ensures.after; ranged = c.in_ok-before.ensures.ranged; over_is = c.in_ok-before.ensures.left; place_is = c.in_ok-before.ensures.at; lacking = c.in_ok-before.ensures.block } in
    after-long c.args.old.now c.args.es.now c.args.e.now _ b.before.blocks.items b.after.blocks.items b.after.left b.lacking.at b.lacking.block p c.requires.read (omega arith)

pub insert_writes-requires-clause-there : goal.insert_writes-requires-clause-there
insert_writes-requires-clause-there c =
    let b = c.in_ok-before.field-0 in
    let p : Packed c.args.old.now c.args.es.now c.args.e.now c.as_new-new.result b.before.blocks.items b.after.blocks.items b.after.left b.lacking.at b.lacking.block = record { entry = c.as_new-new.ensures; blocks = c.in_ok-before.ensures.before; packed = c.in_ok-before.ensures.after; ranged = c.in_ok-before.ensures.ranged; over_is = c.in_ok-before.ensures.left; place_is = c.in_ok-before.ensures.at; lacking = c.in_ok-before.ensures.block } in
    there c.args.old.now c.args.es.now c.args.e.now _ b.before.blocks.items b.after.blocks.items b.after.left b.lacking.at b.lacking.block p c.requires.read (omega arith)

pub returns-clause-moves : goal.returns-clause-moves
returns-clause-moves c =
    let b = c.in_ok-before.field-0 in
    let p : Packed c.args.old.now c.args.es.now c.args.e.now c.as_new-new.result b.before.blocks.items b.after.blocks.items b.after.left b.lacking.at b.lacking.block = record { entry = c.as_new-new.ensures; blocks = c.in_ok-before.ensures.before; packed = c.in_ok-before.ensures.after; ranged = c.in_ok-before.ensures.ranged; over_is = c.in_ok-before.ensures.left; place_is = c.in_ok-before.ensures.at; lacking = c.in_ok-before.ensures.block } in
    let is = c.in_ok-insert_writes.ensures ∙ ap (λ t. insertion_by c.args.old.now t b.after.blocks.items b.lacking.at b.lacking.block) c.as_slice.ensures.value in
    entered c.args.old.now c.args.es.now c.args.e.now _ b.before.blocks.items b.after.blocks.items b.after.left b.lacking.at b.lacking.block p c.requires.read (omega arith) c.requires.new _ is

pub returns-clause-law : goal.returns-clause-law
returns-clause-law c =
    let b = c.in_ok-before.field-0 in
    let p : Packed c.args.old.now c.args.es.now c.args.e.now c.as_new-new.result b.before.blocks.items b.after.blocks.items b.after.left b.lacking.at b.lacking.block = record { entry = c.as_new-new.ensures; blocks = c.in_ok-before.ensures.before; packed = c.in_ok-before.ensures.after; ranged = c.in_ok-before.ensures.ranged; over_is = c.in_ok-before.ensures.left; place_is = c.in_ok-before.ensures.at; lacking = c.in_ok-before.ensures.block } in
    let is = c.in_ok-insert_writes.ensures ∙ ap (λ t. insertion_by c.args.old.now t b.after.blocks.items b.lacking.at b.lacking.block) c.as_slice.ensures.value in
    law c.args.old.now c.args.es.now c.args.e.now _ b.before.blocks.items b.after.blocks.items b.after.left b.lacking.at b.lacking.block p c.requires.read (omega arith) c.requires.new _ is c.requires.forms c.requires.form (long-from c.args.old.now c.told-old)
