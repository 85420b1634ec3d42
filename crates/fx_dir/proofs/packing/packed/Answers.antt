use Rattle.std.proofs.Common.{◌≡◌, ◌∙◌, [], length, sym, ap, refl}
use Rattle.base_words.specs.Packing.{over}
use Rattle.fx_dir.specs.Directory.{directory, dir_entries}
use Rattle.fx_dir.specs.Writing.{name_of}
use Rattle.fx_dir.proofs.Building.{packed-reads, packed-keeps}
use Rattle.fx_dir.proofs.Filling.{none-left, some-left, length-blocks, pack-ranged}
use Rattle.fx_dir.proofs.packing.packed.Goals as goal

pub returns-then-packing-gt0-clause-packing : goal.returns-then-packing-gt0-clause-packing
returns-then-packing-gt0-clause-packing c = sym (some-left (over name_of c.args.k c.args.ents.now) c.in_ok-packing.packing.left _ c.in_ok-packing.ensures.left c.if-packing-gt0.true)

pub returns-clause-packing : goal.returns-clause-packing
returns-clause-packing c =
    let all : over name_of c.args.k c.args.ents.now ≡ [] = none-left _ c.in_ok-packing.packing.left c.in_ok-packing.ensures.left c.if-packing-gt0.false in
    rw (all, c.in_ok-packing.ensures.blocks) refl

pub returns-clause-read : goal.returns-clause-read
returns-clause-read c =
    let es = c.args.ents.now in
    let all : over name_of c.args.k es ≡ [] = none-left _ c.in_ok-packing.packing.left c.in_ok-packing.ensures.left c.if-packing-gt0.false in
    ap dir_entries c.in_ok-packing.ensures.blocks ∙ packed-reads c.args.k es all c.requires.order (record { form = c.requires.form; ranged = pack-ranged c.args.k es all c.in_ok-packing.ensures.ranged })

pub returns-clause-kept : goal.returns-clause-kept
returns-clause-kept c = λ uniform.
    let es = c.args.ents.now in
    let all : over name_of c.args.k es ≡ [] = none-left _ c.in_ok-packing.packing.left c.in_ok-packing.ensures.left c.if-packing-gt0.false in
    ap directory c.in_ok-packing.ensures.blocks ∙ packed-keeps c.args.k es all c.requires.order (record { form = c.requires.form; ranged = pack-ranged c.args.k es all c.in_ok-packing.ensures.ranged }) uniform

pub returns-clause-count : goal.returns-clause-count
returns-clause-count c = ap length c.in_ok-packing.ensures.blocks ∙ length-blocks c.args.k c.args.ents.now
