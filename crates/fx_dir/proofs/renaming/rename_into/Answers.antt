use Rattle.std.proofs.Common.{◌≡◌, ◌∙◌, [], unwrap_or, map, length, sym, ap, subst, arith}
use Rattle.base_words.specs.Packing.{pack, over}
use Rattle.fx_dir.specs.Lists.{Each}
use Rattle.fx_dir.specs.Entries.{rises, has}
use Rattle.fx_dir.specs.Moves.{inserted, as_new, insertion, removal, packing_writes, written, key}
use Rattle.fx_dir.specs.Pieces.{insertion_by}
use Rattle.fx_dir.specs.Writing.{IsInForm, IsRanged, name_of, block_of}
use Rattle.fx_dir.proofs.Based.{long-from, read-order}
use Rattle.fx_dir.proofs.Entering.{Packed, with_new, all-fit, after-is, before-long, after-long, there, entered, law}
use Rattle.fx_dir.proofs.Groups.{rises-inserted}
use Rattle.fx_dir.proofs.Leaving.{has-kept, entered-some, entered-packed}
use Rattle.fx_dir.proofs.Filling.{pack-ranged}
use Rattle.fx_dir.proofs.Seeing.{as_new-form, has-as_new, inserted-each}
use Rattle.fx_dir.proofs.renaming.rename_into.Goals as goal

pub pack_both-requires-clause-form : goal.pack_both-requires-clause-form
pack_both-requires-clause-form c = subst IsInForm (sym c.as_new-new.ensures) (as_new-form c.args.es.now c.args.e.now c.requires.form)

pub pack_both-requires-clause-absent : goal.pack_both-requires-clause-absent
pack_both-requires-clause-absent c = ap (has c.args.es.now) c.as_new-new.ensures ∙ has-as_new c.args.es.now c.args.es.now c.args.e.now ∙ c.requires.new

pub leave-requires-clause-numbered : goal.leave-requires-clause-numbered
leave-requires-clause-numbered c =
    let old = c.args.old.now in
    let es = c.args.es.now in
    let e = c.args.e.now in
    let b = c.in_ok-before.field-0 in
    let p : Packed old es e c.as_new-new.result b.before.blocks.items b.after.blocks.items b.after.left b.lacking.at b.lacking.block = record { entry = c.as_new-new.ensures; blocks = c.in_ok-before.ensures.before; packed = c.in_ok-before.ensures.after; ranged = c.in_ok-before.ensures.ranged; over_is = c.in_ok-before.ensures.left; place_is = c.in_ok-before.ensures.at; lacking = c.in_ok-before.ensures.block } in
    let long : length c.as_slice.result.now ≡ length old = ap length c.as_slice.ensures.value ∙ after-long old es e _ b.before.blocks.items b.after.blocks.items b.after.left b.lacking.at b.lacking.block p c.requires.read (omega arith) in
    rw long c.requires.numbered

pub leave-requires-clause-packed : goal.leave-requires-clause-packed
leave-requires-clause-packed c =
    let old = c.args.old.now in
    let es = c.args.es.now in
    let e = c.args.e.now in
    let b = c.in_ok-before.field-0 in
    let p : Packed old es e c.as_new-new.result b.before.blocks.items b.after.blocks.items b.after.left b.lacking.at b.lacking.block = record { entry = c.as_new-new.ensures; blocks = c.in_ok-before.ensures.before; packed = c.in_ok-before.ensures.after; ranged = c.in_ok-before.ensures.ranged; over_is = c.in_ok-before.ensures.left; place_is = c.in_ok-before.ensures.at; lacking = c.in_ok-before.ensures.block } in
    let long : length c.as_slice.result.now ≡ length old = ap length c.as_slice.ensures.value ∙ after-long old es e _ b.before.blocks.items b.after.blocks.items b.after.left b.lacking.at b.lacking.block p c.requires.read (omega arith) in
    let all : c.as_slice-2.result.now ≡ with_new old es e = c.as_slice-2.ensures.value ∙ c.in_ok-all.ensures ∙ ap (λ x. inserted x es) c.as_new-new.ensures in
    c.as_slice.ensures.value ∙ after-is old es e _ b.before.blocks.items b.after.blocks.items b.after.left b.lacking.at b.lacking.block p c.requires.read (omega arith) ∙ λ i. map block_of (pack name_of (sym long i) (sym all i))

pub leave-requires-clause-fits : goal.leave-requires-clause-fits
leave-requires-clause-fits c =
    let old = c.args.old.now in
    let es = c.args.es.now in
    let e = c.args.e.now in
    let b = c.in_ok-before.field-0 in
    let p : Packed old es e c.as_new-new.result b.before.blocks.items b.after.blocks.items b.after.left b.lacking.at b.lacking.block = record { entry = c.as_new-new.ensures; blocks = c.in_ok-before.ensures.before; packed = c.in_ok-before.ensures.after; ranged = c.in_ok-before.ensures.ranged; over_is = c.in_ok-before.ensures.left; place_is = c.in_ok-before.ensures.at; lacking = c.in_ok-before.ensures.block } in
    let long : length c.as_slice.result.now ≡ length old = ap length c.as_slice.ensures.value ∙ after-long old es e _ b.before.blocks.items b.after.blocks.items b.after.left b.lacking.at b.lacking.block p c.requires.read (omega arith) in
    let all : c.as_slice-2.result.now ≡ with_new old es e = c.as_slice-2.ensures.value ∙ c.in_ok-all.ensures ∙ ap (λ x. inserted x es) c.as_new-new.ensures in
    (λ i. over name_of (long i) (all i)) ∙ all-fit old es e _ b.before.blocks.items b.after.blocks.items b.after.left b.lacking.at b.lacking.block p c.requires.read (omega arith)

pub leave-requires-clause-order : goal.leave-requires-clause-order
leave-requires-clause-order c =
    let old = c.args.old.now in
    let es = c.args.es.now in
    let e = c.args.e.now in
    let b = c.in_ok-before.field-0 in
    let p : Packed old es e c.as_new-new.result b.before.blocks.items b.after.blocks.items b.after.left b.lacking.at b.lacking.block = record { entry = c.as_new-new.ensures; blocks = c.in_ok-before.ensures.before; packed = c.in_ok-before.ensures.after; ranged = c.in_ok-before.ensures.ranged; over_is = c.in_ok-before.ensures.left; place_is = c.in_ok-before.ensures.at; lacking = c.in_ok-before.ensures.block } in
    let all : c.as_slice-2.result.now ≡ with_new old es e = c.as_slice-2.ensures.value ∙ c.in_ok-all.ensures ∙ ap (λ x. inserted x es) c.as_new-new.ensures in
    ap rises all ∙ rises-inserted (as_new es e) es (has-as_new es es e ∙ c.requires.new) (read-order old es c.requires.read)

pub leave-requires-clause-forms : goal.leave-requires-clause-forms
leave-requires-clause-forms c =
    let old = c.args.old.now in
    let es = c.args.es.now in
    let e = c.args.e.now in
    let b = c.in_ok-before.field-0 in
    let p : Packed old es e c.as_new-new.result b.before.blocks.items b.after.blocks.items b.after.left b.lacking.at b.lacking.block = record { entry = c.as_new-new.ensures; blocks = c.in_ok-before.ensures.before; packed = c.in_ok-before.ensures.after; ranged = c.in_ok-before.ensures.ranged; over_is = c.in_ok-before.ensures.left; place_is = c.in_ok-before.ensures.at; lacking = c.in_ok-before.ensures.block } in
    let all : c.as_slice-2.result.now ≡ with_new old es e = c.as_slice-2.ensures.value ∙ c.in_ok-all.ensures ∙ ap (λ x. inserted x es) c.as_new-new.ensures in
    subst (λ t. Each IsInForm t) (sym all) (inserted-each IsInForm (as_new es e) es (as_new-form es e c.requires.form) c.requires.forms)

pub leave-requires-clause-ranged : goal.leave-requires-clause-ranged
leave-requires-clause-ranged c =
    let old = c.args.old.now in
    let es = c.args.es.now in
    let e = c.args.e.now in
    let b = c.in_ok-before.field-0 in
    let p : Packed old es e c.as_new-new.result b.before.blocks.items b.after.blocks.items b.after.left b.lacking.at b.lacking.block = record { entry = c.as_new-new.ensures; blocks = c.in_ok-before.ensures.before; packed = c.in_ok-before.ensures.after; ranged = c.in_ok-before.ensures.ranged; over_is = c.in_ok-before.ensures.left; place_is = c.in_ok-before.ensures.at; lacking = c.in_ok-before.ensures.block } in
    let all : c.as_slice-2.result.now ≡ with_new old es e = c.as_slice-2.ensures.value ∙ c.in_ok-all.ensures ∙ ap (λ x. inserted x es) c.as_new-new.ensures in
    subst (λ t. Each IsRanged t) (sym all) (pack-ranged (length old) (with_new old es e) (all-fit old es e _ b.before.blocks.items b.after.blocks.items b.after.left b.lacking.at b.lacking.block p c.requires.read (omega arith)) (subst (λ x. Each (λ g. Each IsRanged g) (pack name_of (length old) (inserted x es))) p.entry p.ranged))

pub leave-requires-clause-there : goal.leave-requires-clause-there
leave-requires-clause-there c =
    let old = c.args.old.now in
    let es = c.args.es.now in
    let e = c.args.e.now in
    let b = c.in_ok-before.field-0 in
    let p : Packed old es e c.as_new-new.result b.before.blocks.items b.after.blocks.items b.after.left b.lacking.at b.lacking.block = record { entry = c.as_new-new.ensures; blocks = c.in_ok-before.ensures.before; packed = c.in_ok-before.ensures.after; ranged = c.in_ok-before.ensures.ranged; over_is = c.in_ok-before.ensures.left; place_is = c.in_ok-before.ensures.at; lacking = c.in_ok-before.ensures.block } in
    let all : c.as_slice-2.result.now ≡ with_new old es e = c.as_slice-2.ensures.value ∙ c.in_ok-all.ensures ∙ ap (λ x. inserted x es) c.as_new-new.ensures in
    ap (λ t. has t (key c.args.name.now c.args.ver)) all ∙ has-kept (as_new es e) (key c.args.name.now c.args.ver) es c.requires.there

pub insert_writes-requires-clause-left : goal.insert_writes-requires-clause-left
insert_writes-requires-clause-left c =
    let old = c.args.old.now in
    let es = c.args.es.now in
    let e = c.args.e.now in
    let b = c.in_ok-before.field-0 in
    let p : Packed old es e c.as_new-new.result b.before.blocks.items b.after.blocks.items b.after.left b.lacking.at b.lacking.block = record { entry = c.as_new-new.ensures; blocks = c.in_ok-before.ensures.before; packed = c.in_ok-before.ensures.after; ranged = c.in_ok-before.ensures.ranged; over_is = c.in_ok-before.ensures.left; place_is = c.in_ok-before.ensures.at; lacking = c.in_ok-before.ensures.block } in
    ap length c.as_slice-3.ensures.value ∙ before-long old es e _ b.before.blocks.items b.after.blocks.items b.after.left b.lacking.at b.lacking.block p c.requires.read (omega arith)

pub insert_writes-requires-clause-new : goal.insert_writes-requires-clause-new
insert_writes-requires-clause-new c =
    let old = c.args.old.now in
    let es = c.args.es.now in
    let e = c.args.e.now in
    let b = c.in_ok-before.field-0 in
    let p : Packed old es e c.as_new-new.result b.before.blocks.items b.after.blocks.items b.after.left b.lacking.at b.lacking.block = record { entry = c.as_new-new.ensures; blocks = c.in_ok-before.ensures.before; packed = c.in_ok-before.ensures.after; ranged = c.in_ok-before.ensures.ranged; over_is = c.in_ok-before.ensures.left; place_is = c.in_ok-before.ensures.at; lacking = c.in_ok-before.ensures.block } in
    after-long old es e _ b.before.blocks.items b.after.blocks.items b.after.left b.lacking.at b.lacking.block p c.requires.read (omega arith)

pub insert_writes-requires-clause-there : goal.insert_writes-requires-clause-there
insert_writes-requires-clause-there c =
    let old = c.args.old.now in
    let es = c.args.es.now in
    let e = c.args.e.now in
    let b = c.in_ok-before.field-0 in
    let p : Packed old es e c.as_new-new.result b.before.blocks.items b.after.blocks.items b.after.left b.lacking.at b.lacking.block = record { entry = c.as_new-new.ensures; blocks = c.in_ok-before.ensures.before; packed = c.in_ok-before.ensures.after; ranged = c.in_ok-before.ensures.ranged; over_is = c.in_ok-before.ensures.left; place_is = c.in_ok-before.ensures.at; lacking = c.in_ok-before.ensures.block } in
    there old es e _ b.before.blocks.items b.after.blocks.items b.after.left b.lacking.at b.lacking.block p c.requires.read (omega arith)

pub returns-clause-entering : goal.returns-clause-entering
returns-clause-entering c =
    let old = c.args.old.now in
    let es = c.args.es.now in
    let e = c.args.e.now in
    let b = c.in_ok-before.field-0 in
    let p : Packed old es e c.as_new-new.result b.before.blocks.items b.after.blocks.items b.after.left b.lacking.at b.lacking.block = record { entry = c.as_new-new.ensures; blocks = c.in_ok-before.ensures.before; packed = c.in_ok-before.ensures.after; ranged = c.in_ok-before.ensures.ranged; over_is = c.in_ok-before.ensures.left; place_is = c.in_ok-before.ensures.at; lacking = c.in_ok-before.ensures.block } in
    let is = c.in_ok-entering.ensures ∙ ap (λ t. insertion_by old t b.after.blocks.items b.lacking.at b.lacking.block) c.as_slice-3.ensures.value in
    let some = entered old es e _ b.before.blocks.items b.after.blocks.items b.after.left b.lacking.at b.lacking.block p c.requires.read (omega arith) c.requires.new _ is in
    let keeps = law old es e _ b.before.blocks.items b.after.blocks.items b.after.left b.lacking.at b.lacking.block p c.requires.read (omega arith) c.requires.new _ is c.requires.forms c.requires.form (long-from old c.told-old) in
    entered-some old e _ some

pub returns-clause-leaving : goal.returns-clause-leaving
returns-clause-leaving c =
    let old = c.args.old.now in
    let es = c.args.es.now in
    let e = c.args.e.now in
    let b = c.in_ok-before.field-0 in
    let p : Packed old es e c.as_new-new.result b.before.blocks.items b.after.blocks.items b.after.left b.lacking.at b.lacking.block = record { entry = c.as_new-new.ensures; blocks = c.in_ok-before.ensures.before; packed = c.in_ok-before.ensures.after; ranged = c.in_ok-before.ensures.ranged; over_is = c.in_ok-before.ensures.left; place_is = c.in_ok-before.ensures.at; lacking = c.in_ok-before.ensures.block } in
    let is = c.in_ok-entering.ensures ∙ ap (λ t. insertion_by old t b.after.blocks.items b.lacking.at b.lacking.block) c.as_slice-3.ensures.value in
    let some = entered old es e _ b.before.blocks.items b.after.blocks.items b.after.left b.lacking.at b.lacking.block p c.requires.read (omega arith) c.requires.new _ is in
    let keeps = law old es e _ b.before.blocks.items b.after.blocks.items b.after.left b.lacking.at b.lacking.block p c.requires.read (omega arith) c.requires.new _ is c.requires.forms c.requires.form (long-from old c.told-old) in
    let now : c.as_slice.result.now ≡ written (unwrap_or (insertion old e) []) old = c.as_slice.ensures.value ∙ after-is old es e _ b.before.blocks.items b.after.blocks.items b.after.left b.lacking.at b.lacking.block p c.requires.read (omega arith) ∙ entered-packed old e es _ c.requires.read some keeps in
    c.in_ok-leaving-2.ensures.moves ∙ ap (λ t. removal t c.args.name.now c.args.ver) now

pub returns-clause-packing : goal.returns-clause-packing
returns-clause-packing c =
    let old = c.args.old.now in
    let es = c.args.es.now in
    let e = c.args.e.now in
    let b = c.in_ok-before.field-0 in
    let p : Packed old es e c.as_new-new.result b.before.blocks.items b.after.blocks.items b.after.left b.lacking.at b.lacking.block = record { entry = c.as_new-new.ensures; blocks = c.in_ok-before.ensures.before; packed = c.in_ok-before.ensures.after; ranged = c.in_ok-before.ensures.ranged; over_is = c.in_ok-before.ensures.left; place_is = c.in_ok-before.ensures.at; lacking = c.in_ok-before.ensures.block } in
    let is = c.in_ok-entering.ensures ∙ ap (λ t. insertion_by old t b.after.blocks.items b.lacking.at b.lacking.block) c.as_slice-3.ensures.value in
    let some = entered old es e _ b.before.blocks.items b.after.blocks.items b.after.left b.lacking.at b.lacking.block p c.requires.read (omega arith) c.requires.new _ is in
    let keeps = law old es e _ b.before.blocks.items b.after.blocks.items b.after.left b.lacking.at b.lacking.block p c.requires.read (omega arith) c.requires.new _ is c.requires.forms c.requires.form (long-from old c.told-old) in
    let now : c.as_slice.result.now ≡ written (unwrap_or (insertion old e) []) old = c.as_slice.ensures.value ∙ after-is old es e _ b.before.blocks.items b.after.blocks.items b.after.left b.lacking.at b.lacking.block p c.requires.read (omega arith) ∙ entered-packed old e es _ c.requires.read some keeps in
    c.in_ok-leaving-2.ensures.packing ∙ ap packing_writes now
