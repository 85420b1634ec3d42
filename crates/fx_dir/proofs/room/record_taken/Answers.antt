use Rattle.std.proofs.Common.{◌≡◌, ◌-◌, ◌/◌, ◌∙◌, sym, ap, subst, arith, length-drop, drop}
use Rattle.std.specs.Prelude.{IsSome}
use Rattle.fx_dir.specs.Moves.{key}
use Rattle.fx_dir.specs.Records.{record_length, head_length, versions_in}
use Rattle.fx_dir.proofs.Wanted.{record-versions}
use Rattle.fx_dir.specs.Walk.{walked_of, walked, read_in}
use Rattle.fx_dir.proofs.room.record_taken.Goals as goal

pub head_length-head-requires : goal.head_length-head-requires
head_length-head-requires c = let v = record-versions c.args.bytes.now c.requires in omega arith

pub split_at-requires : goal.split_at-requires
split_at-requires c = let v = record-versions c.args.bytes.now c.requires in omega arith

pub name_in-own-requires : goal.name_in-own-requires
name_in-own-requires c = let v = record-versions c.args.bytes.now c.requires in omega arith

pub record_length-requires : goal.record_length-requires
record_length-requires c = let v = record-versions c.args.bytes.now c.requires in omega arith

pub overflow_sub-record_length : goal.overflow_sub-record_length
overflow_sub-record_length c = let v = record-versions c.args.bytes.now c.requires in omega arith

pub versions_taken-requires : goal.versions_taken-requires
versions_taken-requires c = let v = record-versions c.args.bytes.now c.requires in rw c.split_at.ensures.back (omega (arith, length-drop c.head_length-head.result c.args.bytes.now))

pub returns : goal.returns
returns c =
    let b = c.args.bytes.now in
    let e = key c.args.name.now c.args.ver in
    let count = (record_length b - head_length b) / 8 in
    let v = record-versions b c.requires in
    let back : c.split_at.result.1.now ≡ drop (head_length b) b = c.split_at.ensures.back ∙ ap (λ n. drop n b) c.head_length-head.ensures.value in
    let all : versions_in b ((c.record_length.result - c.head_length-head.result) / 8) c.split_at.result.1.now ≡ versions_in b count (drop (head_length b) b) =
    λ i. versions_in b ((c.record_length.ensures.value i - c.head_length-head.ensures.value i) / 8) (back i) in
    let some : IsSome (versions_in b ((c.record_length.result - c.head_length-head.result) / 8) c.split_at.result.1.now) = subst IsSome (sym (all ∙ sym v.entries)) c.requires in
    c.versions_taken.ensures b (sym c.name_in-own.ensures) some ∙ ap (λ o. walked e (walked_of c.args.w) (read_in o)) (all ∙ sym v.entries)
