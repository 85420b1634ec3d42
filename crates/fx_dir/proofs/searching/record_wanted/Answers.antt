use Rattle.std.proofs.Common.{◌≡◌, ◌-◌, ◌/◌, ◌∙◌, true, sym, ap, subst, arith, option_map, length-drop, drop}
use Rattle.std.specs.Prelude.{IsSome}
use Rattle.std.specs.Str.{bytes_eq}
use Rattle.fx_dir.specs.Records.{name_in, record_length, head_length, versions_in}
use Rattle.fx_dir.specs.Wanted.{is_wanted, version_of}
use Rattle.fx_dir.proofs.Wanted.{first_in, by_version, record-versions, versions-named, versions-other}
use Rattle.fx_dir.proofs.searching.record_wanted.Goals as goal

pub has_name-requires : goal.has_name-requires
has_name-requires c = let v = record-versions c.args.bytes.now c.requires in omega arith

pub head_length-head-requires : goal.head_length-head-requires
head_length-head-requires c = let v = record-versions c.args.bytes.now c.requires in omega arith

pub record_length-requires : goal.record_length-requires
record_length-requires c = let v = record-versions c.args.bytes.now c.requires in omega arith

pub overflow_sub-record_length : goal.overflow_sub-record_length
overflow_sub-record_length c = let v = record-versions c.args.bytes.now c.requires in omega arith

pub split_at-requires : goal.split_at-requires
split_at-requires c = let v = record-versions c.args.bytes.now c.requires in omega arith

pub version_in-requires : goal.version_in-requires
version_in-requires c = let v = record-versions c.args.bytes.now c.requires in rw c.split_at.ensures.back (omega (arith, length-drop c.head_length-head.result c.args.bytes.now))

pub returns-then-not-has_name : goal.returns-then-not-has_name
returns-then-not-has_name c =
    let b = c.args.bytes.now in
    let v = record-versions b c.requires in
    let p = is_wanted c.args.name.now c.args.ver in
    let other = versions-other c.args.name.now c.args.ver b ((record_length b - head_length b) / 8) (drop (head_length b) b) (cc (c.has_name.ensures, c.if-not-has_name.ensures, c.if-not-has_name.true)) in
    sym (ap (option_map version_of) (ap (first_in p) v.entries ∙ other))

pub returns : goal.returns
returns c =
    let b = c.args.bytes.now in
    let name = c.args.name.now in
    let ver = c.args.ver in
    let count = (record_length b - head_length b) / 8 in
    let v = record-versions b c.requires in
    let is : bytes_eq (name_in b) name ≡ true = cc (c.has_name.ensures, c.if-not-has_name.false) in
    let back : c.split_at.result.1.now ≡ drop (head_length b) b = c.split_at.ensures.back ∙ ap (λ n. drop n b) c.head_length-head.ensures.value in
    let e : versions_in b ((c.record_length.result - c.head_length-head.result) / 8) c.split_at.result.1.now ≡ versions_in b count (drop (head_length b) b) =
    λ i. versions_in b ((c.record_length.ensures.value i - c.head_length-head.ensures.value i) / 8) (back i) in
    let some : IsSome (versions_in b ((c.record_length.result - c.head_length-head.result) / 8) c.split_at.result.1.now) = subst IsSome (sym (e ∙ sym v.entries)) c.requires in
    c.version_in.ensures b some
    ∙ ap (option_map version_of) (ap (first_in (by_version name ver b)) e ∙ sym (versions-named name ver b count (drop (head_length b) b) is) ∙ ap (first_in (is_wanted name ver)) (sym v.entries))
