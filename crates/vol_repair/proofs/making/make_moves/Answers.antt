-- Moves, one after another.
use Rattle.std.proofs.Common.{◌∙◌, Err, length, take, ap, arith}
use Rattle.std.proofs.lemmas.Result.{err_from_is_err_and}
use Rattle.base_words.proofs.ListWrites.{length-written}
use Rattle.vol_rebuild.specs.Places.{moved_at}
use Rattle.vol_rebuild.proofs.Stepping.{on_volume, move_made}
use Rattle.vol_repair.proofs.Stepping.{move_failed, move_told, all_made}
use Rattle.vol_repair.proofs.making.make_moves.Goals as goal

pub overflow_cast-lbn : goal.overflow_cast-lbn
overflow_cast-lbn g c =
    let few = c.requires.size.to in
    let some = c.requires.size.from in
    let k = on_volume c.args.places.now (length c.args.m.now.blocks) _ c.place_of-lbn.result c.requires.inside (omega (arith, some)) c.place_of-lbn.ensures in
    omega (arith, k, few)

pub write-requires : goal.write-requires
write-requires g c =
    let some = c.requires.size.from in
    let k = on_volume c.args.places.now (length c.args.m.now.blocks) _ c.place_of-lbn.result c.requires.inside (omega (arith, some)) c.place_of-lbn.ensures in
    let e = ap length c.loop-next.invariant.blocks ∙ length-written (moved_at c.args.places.now (take c.loop-next.next-index c.args.moves.now)) c.args.m.now.blocks in
    omega (arith, k, e)

pub returns-in_err-write-clause-step : goal.returns-in_err-write-clause-step
returns-in_err-write-clause-step g c a holds =
    let p = err_from_is_err_and c.from_residual.result c.from_residual.ensures.1 in
    move_failed c.args.places.now c.args.moves.now c.args.m.now.blocks c.loop-next.m.blocks _ c.loop-next.next-index c.place_of-lbn.result _ _ _ _ _ _ _ _ holds c.loop-next.invariant.blocks
    c.loop-next-test.true c.place_of-lbn.ensures c.loop-next.invariant.told c.in_err-write.ensures.same c.in_err-write.ensures.failed c.loop-next.invariant.later c.in_err-write.ensures.cause.later
    c.in_err-write.ensures.cause.failed (p.1 ∙ ap Err p.2)

pub loop-next-preserved : goal.loop-next-preserved
loop-next-preserved g c = record {
  blocks = move_made c.args.places.now c.args.moves.now c.args.m.now.blocks c.loop-next.m.blocks c.write.new.self.blocks c.loop-next.next-index c.place_of-lbn.result _ c.loop-next.invariant.blocks c.loop-next-test.true c.place_of-lbn.ensures c.in_ok-write.ensures.ok;
  told = move_told _ _ _ c.args.m.now.blocks c.loop-next.m.blocks c.write.new.self.blocks c.place_of-lbn.result _ c.loop-next.invariant.told c.in_ok-write.ensures.ok c.in_ok-write.ensures.image;
  later = (let a = c.loop-next.invariant.later in let b = c.in_ok-write.ensures.cause.later in omega (arith, a, b));
}

pub returns-clause-step : goal.returns-clause-step
returns-clause-step g c a holds =
    all_made c.args.places.now c.args.moves.now _ _ _ _ _ _ _ c.loop-next.next-index holds c.loop-next.invariant.blocks c.loop-next.invariant.told c.loop-next.invariant.later (λ e. absurd (cc e))
