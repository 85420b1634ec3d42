use Rattle.std.proofs.Common.{◌≡◌, ◌∙◌, [], false, max, sym, ap, arith, length, length-drop, drop}
use Rattle.fx_dir.specs.Records.{record_length, name_in, is_end}
use Rattle.fx_dir.specs.Directory.{entries_at}
use Rattle.fx_dir.proofs.Wanted.{record-versions}
use Rattle.fx_dir.proofs.RoomStreams.{record-here, records-first}
use Rattle.fx_dir.proofs.Tallying.{together, block-passed, block-done}
use Rattle.fx_dir.proofs.room.block_counted.Goals as goal

pub loop-longest-init : goal.loop-longest-init
loop-longest-init c = record {
  long = omega arith;
  counted = record { past = []; left = records-first together [] c.args.b.now c.requires; bytes = omega arith; names = omega arith };
}

pub name_in-requires : goal.name_in-requires
name_in-requires c =
    let rest = c.loop-longest.rest.now in
    let v = record-versions rest (record-here rest c.loop-longest.invariant.long _ _ _ c.loop-longest.invariant.counted.left (sym c.is_end.ensures ∙ c.loop-longest-test.true)) in
    omega arith

pub split_at-requires : goal.split_at-requires
split_at-requires c =
    let rest = c.loop-longest.rest.now in
    let v = record-versions rest (record-here rest c.loop-longest.invariant.long _ _ _ c.loop-longest.invariant.counted.left (sym c.is_end.ensures ∙ c.loop-longest-test.true)) in
    omega arith

pub loop-longest-preserved : goal.loop-longest-preserved
loop-longest-preserved c =
    let rest = c.loop-longest.rest.now in
    let goes : is_end rest ≡ false = sym c.is_end.ensures ∙ c.loop-longest-test.true in
    let v = record-versions rest (record-here rest c.loop-longest.invariant.long _ _ _ c.loop-longest.invariant.counted.left goes) in
    let back : c.split_at.result.1.now ≡ drop (record_length rest) rest = c.split_at.ensures.back ∙ ap (λ n. drop n rest) c.record_length.ensures.value in
    let longest : c.max-longest.result ≡ max c.loop-longest.longest (length (name_in rest)) = c.max-longest.ensures ∙ ap (λ l. max c.loop-longest.longest (length l)) c.name_in.ensures in
    record {
      long = rw back (omega (arith, length-drop (record_length rest) rest));
      counted = rw (back, longest) (block-passed (entries_at c.args.b.now) 512 c.loop-longest.longest rest c.loop-longest.invariant.long goes c.loop-longest.invariant.counted);
    }

pub returns : goal.returns
returns c =
    let done = block-done (entries_at c.args.b.now) 512 c.loop-longest.longest c.loop-longest.rest.now c.loop-longest.invariant.long (sym c.is_end.ensures ∙ c.loop-longest-test.false) c.loop-longest.invariant.counted in
    record { bytes = done.0; longest = done.1 }
