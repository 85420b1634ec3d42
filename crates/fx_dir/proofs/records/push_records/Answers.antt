use Rattle.std.proofs.Common.{◌≡◌, ◌+◌, ◌<◌, ◌≤◌, ◌∙◌, sym, ap, arith, drop, length, length-drop}
use Rattle.fx_dir.specs.Records.{record_length}
use Rattle.fx_dir.proofs.Streams.{records-begin, records-end, records-fail, records-go}
use Rattle.fx_dir.proofs.Appending.{lacks, found}
use Rattle.fx_dir.proofs.records.push_records.Goals as goal

pub loop-rest-init : goal.loop-rest-init
loop-rest-init c = record { long = omega arith; left = records-begin c.args.list.now.items c.args.b.now }

pub returns-then-not-whole : goal.returns-then-not-whole
returns-then-not-whole c =
    let none = lacks _ _ _ _ c.in_ok-whole.ensures.value c.if-not-whole.true in
    sym (records-fail _ c.loop-rest.list.items c.loop-rest.rest.now c.loop-rest.invariant.long (sym c.is_end.ensures ∙ c.loop-rest-test.true) none c.loop-rest.invariant.left)

pub loop-rest-preserved : goal.loop-rest-preserved
loop-rest-preserved c =
    let rest = c.loop-rest.rest.now in
    let some = found _ _ _ _ c.in_ok-whole.ensures.value c.if-not-whole.false in
    let room : record_length rest + 2 ≤ length rest = rw c.if-not-whole.false at c.in_ok-whole.ensures.room in
    let back : c.split_at.result.1.now ≡ drop (record_length rest) rest = c.split_at.ensures.back ∙ ap (λ n. drop n rest) c.record_length.ensures.value in
    let fewer : length (drop (record_length rest) rest) < length rest = omega (arith, length-drop (record_length rest) rest) in
    record {
      long = rw back (omega (arith, length-drop (record_length rest) rest));
      left = rw back (records-go _ c.loop-rest.list.items some.0 _ rest c.loop-rest.invariant.long (sym c.is_end.ensures ∙ c.loop-rest-test.true) some.1 some.2 fewer c.loop-rest.invariant.left);
    }

pub returns : goal.returns
returns c =
    sym (records-end _ c.loop-rest.list.items c.loop-rest.rest.now c.loop-rest.invariant.long (sym c.is_end.ensures ∙ c.loop-rest-test.false) c.loop-rest.invariant.left)
