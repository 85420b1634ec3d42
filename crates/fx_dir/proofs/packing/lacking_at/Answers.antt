use Rattle.std.proofs.Common.{◌∙◌, ◌≡◌, ◌-◌, ◌+◌, None, true, false, sym, arith, suc, ap}
use Rattle.base_words.specs.Packing.{filled, unfilled}
use Rattle.fx_dir.specs.Entries.{has, without}
use Rattle.fx_dir.specs.Writing.{IsInForm, name_of, block_of}
use Rattle.fx_dir.proofs.Mixing.{each-take, each-drop}
use Rattle.fx_dir.proofs.Seeing.{without-each}
use Rattle.fx_dir.proofs.Filling.{rest-room, place-here, place-on, block-here, block-on}
use Rattle.fx_dir.proofs.packing.lacking_at.Goals as goal

pub block_of-requires-clause-form : goal.block_of-requires-clause-form
block_of-requires-clause-form c =
    rw (c.as_slice.ensures.value, c.in_ok-others.ensures, c.split_at.ensures.front) (without-each IsInForm c.args.e.now _ (each-take IsInForm c.fill.result c.loop-i.rest.now c.loop-i.invariant.form))

pub block_of-requires-clause-room : goal.block_of-requires-clause-room
block_of-requires-clause-room c =
    rw (c.as_slice.ensures.value, c.in_ok-others.ensures) (rest-room c.args.e.now c.loop-i.rest.now _ (c.split_at.ensures.front ∙ c.fill.ensures.group))

pub returns-then-has : goal.returns-then-has
returns-then-has c =
    let rest = c.loop-i.rest.now in
    let e = c.args.e.now in
    let n = c.args.count - c.loop-i.i - 1 in
    let s : suc n + c.loop-i.i ≡ c.args.count = omega arith in
    let group : c.split_at.result.0.now ≡ filled name_of None 0 rest = c.split_at.ensures.front ∙ c.fill.ensures.group in
    let there : has (filled name_of None 0 rest) e ≡ true = ap (λ t. has t e) (sym group) ∙ sym c.has.ensures ∙ c.if-has.true in
    record {
      at = sym (c.loop-i.invariant.place_on (suc n) s ∙ ap (λ p. p + c.loop-i.i) (place-here e rest n there) ∙ omega arith);
      block = c.block_of.ensures ∙ ap block_of (c.as_slice.ensures.value ∙ c.in_ok-others.ensures ∙ ap (without e) (group ∙ sym (block-here e rest n there) ∙ sym (c.loop-i.invariant.block_on (suc n) s)));
    }

pub loop-i-preserved : goal.loop-i-preserved
loop-i-preserved c =
    let rest = c.loop-i.rest.now in
    let e = c.args.e.now in
    let group : c.split_at.result.0.now ≡ filled name_of None 0 rest = c.split_at.ensures.front ∙ c.fill.ensures.group in
    let more : c.split_at.result.1.now ≡ unfilled name_of None 0 rest = c.split_at.ensures.back ∙ c.fill.ensures.rest in
    let lacks : has (filled name_of None 0 rest) e ≡ false = ap (λ t. has t e) (sym group) ∙ sym c.has.ensures ∙ c.if-has.false in
    record {
      form = rw c.split_at.ensures.back (each-drop IsInForm c.fill.result rest c.loop-i.invariant.form);
      place_on = λ n h. c.loop-i.invariant.place_on (suc n) (omega arith) ∙ ap (λ p. p + c.loop-i.i) (place-on e rest _ n lacks more) ∙ omega arith;
      block_on = λ n h. c.loop-i.invariant.block_on (suc n) (omega arith) ∙ block-on e rest _ n lacks more;
    }

pub returns : goal.returns
returns c = record {
  at = sym (c.loop-i.invariant.place_on 0 (omega arith) ∙ omega arith);
  block = c.block_of-2.ensures ∙ ap (λ g. block_of (without c.args.e.now g)) (sym (c.loop-i.invariant.block_on 0 (omega arith)));
}
