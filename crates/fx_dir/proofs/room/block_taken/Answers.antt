use Rattle.std.proofs.Common.{◌≡◌, ◌<◌, ◌∙◌, false, sym, ap, arith, length, length-drop, drop}
use Rattle.fx_dir.specs.Moves.{key}
use Rattle.fx_dir.specs.Records.{record_length, is_end}
use Rattle.fx_dir.proofs.Wanted.{record-versions}
use Rattle.fx_dir.specs.Walk.{walked_of, walked}
use Rattle.fx_dir.proofs.RoomStreams.{walks, record-here, record-passed, records-none, records-first}
use Rattle.fx_dir.proofs.room.block_taken.Goals as goal

pub loop-rest-init : goal.loop-rest-init
loop-rest-init c = record { long = omega arith; left = records-first (walked (key c.args.name.now c.args.ver)) (walked_of c.args.w) c.args.b.now c.requires }

pub record_taken-now-requires : goal.record_taken-now-requires
record_taken-now-requires c = record-here c.loop-rest.rest.now c.loop-rest.invariant.long _ _ _ c.loop-rest.invariant.left (sym c.is_end.ensures ∙ c.loop-rest-test.true)

pub record_length-requires : goal.record_length-requires
record_length-requires c = c.loop-rest.invariant.long

pub split_at-requires : goal.split_at-requires
split_at-requires c =
    let rest = c.loop-rest.rest.now in
    let v = record-versions rest (record-here rest c.loop-rest.invariant.long _ _ _ c.loop-rest.invariant.left (sym c.is_end.ensures ∙ c.loop-rest-test.true)) in
    omega arith

pub loop-rest-preserved : goal.loop-rest-preserved
loop-rest-preserved c =
    let rest = c.loop-rest.rest.now in
    let goes : is_end rest ≡ false = sym c.is_end.ensures ∙ c.loop-rest-test.true in
    let v = record-versions rest (record-here rest c.loop-rest.invariant.long _ _ _ c.loop-rest.invariant.left goes) in
    let back : c.split_at.result.1.now ≡ drop (record_length rest) rest = c.split_at.ensures.back ∙ ap (λ n. drop n rest) c.record_length.ensures.value in
    let fewer : length (drop (record_length rest) rest) < length rest = omega (arith, length-drop (record_length rest) rest) in
    record {
      long = rw back (omega (arith, length-drop (record_length rest) rest));
      left = rw back (record-passed rest c.loop-rest.invariant.long _ _ _ c.loop-rest.invariant.left goes (walked_of c.record_taken-now.result) c.record_taken-now.ensures fewer (walks (key c.args.name.now c.args.ver)));
    }

pub returns : goal.returns
returns c = records-none c.loop-rest.rest.now c.loop-rest.invariant.long _ _ _ c.loop-rest.invariant.left (sym c.is_end.ensures ∙ c.loop-rest-test.false) (walks (key c.args.name.now c.args.ver))
