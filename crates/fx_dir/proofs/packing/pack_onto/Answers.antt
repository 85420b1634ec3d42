use Rattle.std.proofs.Common.{◌∙◌, ◌≡◌, None, List, sym, arith, suc, ap, subst, length, append-nil}
use Rattle.base_words.specs.Packing.{filled, unfilled}
use Rattle.fx_dir.specs.declared.RawEnt.{RawEnt}
use Rattle.fx_dir.specs.Lists.{Each}
use Rattle.fx_dir.specs.Writing.{IsInForm, IsRanged, name_of}
use Rattle.fx_dir.proofs.Mixing.{each-take, each-drop}
use Rattle.fx_dir.proofs.Filling.{group-room, blocks-step, over-next}
use Rattle.fx_dir.proofs.packing.pack_onto.Goals as goal

pub block_of-requires-clause-form : goal.block_of-requires-clause-form
block_of-requires-clause-form c = rw c.split_at.ensures.front (each-take IsInForm c.fill.result c.loop-i.rest.now c.loop-i.invariant.form)

pub block_of-requires-clause-room : goal.block_of-requires-clause-room
block_of-requires-clause-room c = group-room c.loop-i.rest.now _ (c.split_at.ensures.front ∙ c.fill.ensures.group)

pub loop-i-preserved : goal.loop-i-preserved
loop-i-preserved c =
    let rest = c.loop-i.rest.now in
    let group : c.split_at.result.0.now ≡ filled name_of None 0 rest = c.split_at.ensures.front ∙ c.fill.ensures.group in
    let more : c.split_at.result.1.now ≡ unfilled name_of None 0 rest = c.split_at.ensures.back ∙ c.fill.ensures.rest in
    record {
      form = rw c.split_at.ensures.back (each-drop IsInForm c.fill.result rest c.loop-i.invariant.form);
      ranged = λ n h a. c.loop-i.invariant.ranged (suc n) (omega arith) (subst (λ (t : List RawEnt). Each IsRanged t) c.fill.ensures.group c.fill.ensures.ranged, rw (← more) a);
      blocks_so_far = λ n h. blocks-step _ c.loop-i.blocks.items c.push.new.self.items c.split_at.result.0.now rest c.split_at.result.1.now c.block_of.result n (c.loop-i.invariant.blocks_so_far (suc n) (omega arith)) c.in_ok-push.ensures.items c.block_of.ensures group more;
      left = λ n h. over-next _ rest c.split_at.result.1.now n (c.loop-i.invariant.left (suc n) (omega arith)) more;
    }

pub returns-clause-blocks : goal.returns-clause-blocks
returns-clause-blocks c = sym (append-nil c.loop-i.blocks.items) ∙ c.loop-i.invariant.blocks_so_far 0 (omega arith)

pub returns-clause-ranged : goal.returns-clause-ranged
returns-clause-ranged c = c.loop-i.invariant.ranged 0 (omega arith) tt

pub returns-clause-left : goal.returns-clause-left
returns-clause-left c = ap length (c.loop-i.invariant.left 0 (omega arith))
