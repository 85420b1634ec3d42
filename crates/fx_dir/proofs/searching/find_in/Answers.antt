use Rattle.std.proofs.Common.{◌≡◌, ◌<◌, ◌∙◌, false, sym, ap, arith, option_map, length, length-drop, drop}
use Rattle.fx_dir.specs.Records.{record_length, is_end}
use Rattle.fx_dir.specs.Wanted.{is_wanted, version_of}
use Rattle.fx_dir.proofs.Wanted.{record-versions, record-block, record-here, record-tells, record-passed, records-none}
use Rattle.fx_dir.proofs.searching.find_in.Goals as goal

pub loop-rest-init : goal.loop-rest-init
loop-rest-init c = record { long = omega arith; left = record-block c.args.b.now (is_wanted c.args.name.now c.args.ver) c.requires }

pub record_wanted-requires : goal.record_wanted-requires
record_wanted-requires c = record-here _ _ c.loop-rest.rest.now c.loop-rest.invariant.long (sym c.is_end.ensures ∙ c.loop-rest-test.true) c.loop-rest.invariant.left

pub returns-in-Some : goal.returns-in-Some
returns-in-Some c =
    sym (record-tells _ _ c.loop-rest.rest.now c.loop-rest.invariant.long (sym c.is_end.ensures ∙ c.loop-rest-test.true) c.loop-rest.invariant.left c.in-Some.found (sym c.record_wanted.ensures ∙ c.in-Some.is))

pub record_length-requires : goal.record_length-requires
record_length-requires c = c.loop-rest.invariant.long

pub split_at-requires : goal.split_at-requires
split_at-requires c =
    let rest = c.loop-rest.rest.now in
    let v = record-versions rest (record-here _ _ rest c.loop-rest.invariant.long (sym c.is_end.ensures ∙ c.loop-rest-test.true) c.loop-rest.invariant.left) in
    omega arith

pub loop-rest-preserved : goal.loop-rest-preserved
loop-rest-preserved c =
    let rest = c.loop-rest.rest.now in
    let goes : is_end rest ≡ false = sym c.is_end.ensures ∙ c.loop-rest-test.true in
    let v = record-versions rest (record-here _ _ rest c.loop-rest.invariant.long goes c.loop-rest.invariant.left) in
    let back : c.split_at.result.1.now ≡ drop (record_length rest) rest = c.split_at.ensures.back ∙ ap (λ n. drop n rest) c.record_length.ensures.value in
    let fewer : length (drop (record_length rest) rest) < length rest = omega (arith, length-drop (record_length rest) rest) in
    record {
      long = rw back (omega (arith, length-drop (record_length rest) rest));
      left = rw back (record-passed _ _ rest c.loop-rest.invariant.long goes c.loop-rest.invariant.left (sym c.record_wanted.ensures ∙ c.in_default.is) fewer);
    }

pub returns : goal.returns
returns c = sym (ap (option_map version_of) (records-none _ _ c.loop-rest.rest.now c.loop-rest.invariant.long (sym c.is_end.ensures ∙ c.loop-rest-test.false) c.loop-rest.invariant.left))
