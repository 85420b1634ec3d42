use Rattle.std.proofs.Common.{◌≡◌, ◌∙◌, ◌<◌, ◌++◌, ◌∷◌, [], None, List, drop, length, sym, ap, subst, arith}
use Rattle.base_words.specs.Packing.{filled, unfilled}
use Rattle.fx_dir.specs.declared.RawEnt.{RawEnt}
use Rattle.fx_dir.specs.Lists.{Each}
use Rattle.fx_dir.specs.Writing.{IsInForm, IsRanged, name_of}
use Rattle.fx_dir.proofs.Ahead.{fills-none, fills-more}
use Rattle.fx_dir.proofs.Filling.{group-room}
use Rattle.fx_dir.proofs.Mixing.{each-take, each-drop}
use Rattle.fx_dir.proofs.both.packed_ahead.Goals as goal

pub loop-rest-init : goal.loop-rest-init
loop-rest-init c = fills-none c.args.count c.args.front.now _ c.in_ok-blocks.ensures.items

pub split_at-requires : goal.split_at-requires
split_at-requires c = c.loop-rest.invariant.within

pub fill-n-requires : goal.fill-n-requires
fill-n-requires c = rw c.split_at.ensures.back (each-drop IsInForm c.loop-rest.entries c.args.front.now c.requires)

pub block_of-requires-clause-form : goal.block_of-requires-clause-form
block_of-requires-clause-form c =
    rw (c.split_at-in-loop-rest.ensures.front, c.split_at.ensures.back) (each-take IsInForm c.fill-n.result _ (each-drop IsInForm c.loop-rest.entries c.args.front.now c.requires))

pub block_of-requires-clause-room : goal.block_of-requires-clause-room
block_of-requires-clause-room c = group-room c.split_at.result.1.now _ (c.split_at-in-loop-rest.ensures.front ∙ c.fill-n.ensures.group)

pub loop-rest-preserved : goal.loop-rest-preserved
loop-rest-preserved c =
    let rest = drop c.loop-rest.entries c.args.front.now in
    let n = c.fill-n.result in
    let back : c.split_at.result.1.now ≡ rest = c.split_at.ensures.back in
    let group : c.split_at-in-loop-rest.result.0.now ≡ filled name_of None 0 rest = c.split_at-in-loop-rest.ensures.front ∙ c.fill-n.ensures.group ∙ ap (filled name_of None 0) back in
    let left : drop n rest ≡ unfilled name_of None 0 rest = ap (drop n) (sym back) ∙ c.fill-n.ensures.rest ∙ ap (unfilled name_of None 0) back in
    let some : n < length rest = subst (λ (t : List RawEnt). n < length t) back (let b = c.fill-n.ensures.bound in omega arith) in
    let ranged : Each IsRanged c.split_at-in-loop-rest.result.0.now = subst (λ (t : List RawEnt). Each IsRanged t) (sym c.split_at-in-loop-rest.ensures.front) c.fill-n.ensures.ranged in
    fills-more c.args.count n c.args.front.now c.loop-rest.blocks.items c.loop-rest.entries _ c.loop-rest.invariant (omega arith) some group left ranged c.push.new.self.items
    (c.in_ok-push.ensures.items ∙ ap (λ b. c.loop-rest.blocks.items ++ b ∷ []) c.block_of.ensures)
