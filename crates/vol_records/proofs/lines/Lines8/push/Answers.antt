use Rattle.std.proofs.Common.{◌≡◌, ◌∙◌, ◌+◌, [], ◌∷◌, ◌++◌, length, ap, arith, rules}
use Rattle.std.proofs.lemmas.Result.{MatchResult-from_err}
use Rattle.vol_records.specs.Records.{lines_at, room_of}
use Rattle.vol_records.proofs.Held.{AreLines-append, AreLines-push, lines_at-kept, lines_at-push}
use Rattle.vol_records.proofs.lines.Lines8.push.Goals as goal

pub invariant_of-self-in_err-push : goal.invariant_of-self-in_err-push
invariant_of-self-in_err-push c =
    rw (c.in_ok-extend_from_slice.ensures.items, c.in_err-push.ensures.items)
    (AreLines-append c.self.inside.bytes.items c.args.line.now c.self.inside.places.items c.self.inside.spelt c.self.invariant)

pub returns-in_err-push-clause-err : goal.returns-in_err-push-clause-err
returns-in_err-push-clause-err c =
    let kept = lines_at-kept c.self.inside.bytes.items c.args.line.now c.self.inside.places.items c.self.inside.spelt c.self.invariant in
    let bytes = c.in_ok-extend_from_slice.ensures.items in
    let places = c.in_err-push.ensures.items in
    let same : lines_at c.extend_from_slice.new.self.items c.push.new.self.items ≡ c.args.self.now = rw (bytes, places) (kept ∙ c.self.view_is) in
    MatchResult-from_err c.from_residual-in_err-push.result _ _ c.from_residual-in_err-push.ensures.0 (λ y. same)

pub invariant_of-self-2 : goal.invariant_of-self-2
invariant_of-self-2 c =
    let from : c.len.result ≡ length c.self.inside.bytes.items = search rules in
    let len : c.in-Some.spelt ≡ c.self.inside.spelt + room_of (length c.args.line.now) = omega arith in
    rw (c.in_ok-extend_from_slice.ensures.items, c.in_ok-push.ensures.items, from, len)
    (AreLines-push c.self.inside.bytes.items c.args.line.now c.self.inside.places.items c.self.inside.spelt c.requires c.self.invariant)

pub returns-clause-ok : goal.returns-clause-ok
returns-clause-ok c =
    let from : c.len.result ≡ length c.self.inside.bytes.items = search rules in
    let more = lines_at-push c.self.inside.bytes.items c.args.line.now c.self.inside.places.items c.self.invariant.inside in
    let bytes = c.in_ok-extend_from_slice.ensures.items in
    let places = c.in_ok-push.ensures.items in
    rw (bytes, places, from) (more ∙ ap (λ ls. ls ++ c.args.line.now ∷ []) c.self.view_is)
