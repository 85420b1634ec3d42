use Rattle.std.proofs.Common.{◌≡◌, ◌∙◌, ◌⊎◌, inl, inr, ◌<◌, ◌≤◌, ◌+◌, length, sym, arith, lit≤}
use Rattle.std.specs.List.{insert}
use Rattle.std.proofs.lemmas.List.Edits.{length-insert}
use Rattle.plain_rules.proofs.Packs.{fits_packs, goes_on, goes_next, goes_nowhere, gone_all}
use Rattle.plain_rules.proofs.packing.packs_with.Goals as goal
use Rattle.plain_rules.proofs.packing.packs_with.Goals.{then-behind-used, else-behind-used+else-left-eq0+else-alone-gt510}

pub loop-i-init : goal.loop-i-init
loop-i-init c = record { room = lit≤ tt; left = fits_packs c.args.more (insert c.args.ents.now c.args.at c.args.e.now) }

pub returns-then-left-eq0 : goal.returns-then-left-eq0
returns-then-left-eq0 c =
    let why : (c.loop-i.left ≡ 0) ⊎ (510 < c.own_cost-alone.result) = elim c.then-left-eq0.either [ inl none ↦ inl none | inr large ↦ inr large.1 ] in
    sym (goes_nowhere (insert c.args.ents.now c.args.at c.args.e.now) c.loop-i.i c.loop-i.left c.loop-i.used c.cost-behind.result c.own_cost-alone.result _ c.entry_with.result.now
    c.entry_with.ensures c.cost-behind.ensures c.if-behind-used.false c.own_cost-alone.ensures why)
    ∙ c.loop-i.invariant.left

pub loop-i-preserved : goal.loop-i-preserved
loop-i-preserved c = elim c.if-behind-used.branch [
  | then-behind-used w ↦ record {
    room = let room = c.loop-i.invariant.room in let here = w.if-behind-used.true in let is = w.used-is in omega arith;
    left =
        goes_on (insert c.args.ents.now c.args.at c.args.e.now) c.loop-i.i c.loop-i.left c.loop-i.used c.cost-behind.result c.if-behind-used.used c.if-behind-used.left _ c.entry_with.result.now
        c.entry_with.ensures c.cost-behind.ensures c.loop-i.invariant.room w.if-behind-used.true w.used-is w.left-is
        ∙ c.loop-i.invariant.left;
  }
  | else-behind-used+else-left-eq0+else-alone-gt510 w ↦ record {
    room = let small = w.if-alone-gt510.false in let is = w.used-is in omega arith;
    left =
        goes_next (insert c.args.ents.now c.args.at c.args.e.now) c.loop-i.i c.loop-i.left c.loop-i.used c.cost-behind.result w.own_cost-alone.result c.if-behind-used.used c.if-behind-used.left _ c.entry_with.result.now
        c.entry_with.ensures c.cost-behind.ensures w.if-behind-used.false (let some = w.if-left-eq0.false in omega arith) w.own_cost-alone.ensures w.if-alone-gt510.false w.used-is w.left-is
        ∙ c.loop-i.invariant.left;
  }
]

pub returns : goal.returns
returns c =
    let long = length-insert c.args.ents.now c.args.at c.args.e.now c.requires in
    let end : length (insert c.args.ents.now c.args.at c.args.e.now) ≤ c.loop-i.i = omega (arith, long) in
    sym (gone_all (insert c.args.ents.now c.args.at c.args.e.now) c.loop-i.i c.loop-i.left c.loop-i.used _ end) ∙ c.loop-i.invariant.left
