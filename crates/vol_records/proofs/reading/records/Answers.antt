use Rattle.std.proofs.Common.{List, sym, subst}
use Rattle.std.proofs.lemmas.Result.{err_from_is_err_and}
use Rattle.vol_records.specs.declared.types.Rec.{Rec}
use Rattle.vol_records.proofs.Streams.{HasRead, HasRead-none, HasRead-more, HasRead-all, HasRead-fault}
use Rattle.vol_records.proofs.reading.records.Goals as goal

pub loop-at-init : goal.loop-at-init
loop-at-init c = subst (λ (places : List Rec). HasRead c.args.stream.now places 0) (sym c.new-places.ensures.items) (HasRead-none c.args.stream.now)

pub returns-in_err-record-clause-bad_count : goal.returns-in_err-record-clause-bad_count
returns-in_err-record-clause-bad_count c at e =
    let p = err_from_is_err_and c.from_residual.result c.from_residual.ensures.1 in
    let first = HasRead-fault c.args.stream.now c.loop-at.places.items c.loop-at.at c.in_err-record.field-0.0 c.loop-at-test.true c.loop-at.invariant (sym c.in_err-record.ensures.value) in
    let given = p.1 in
    let same = p.2 in
    cc

pub returns-in_err-record-clause-truncated : goal.returns-in_err-record-clause-truncated
returns-in_err-record-clause-truncated c at e =
    let p = err_from_is_err_and c.from_residual.result c.from_residual.ensures.1 in
    let first = HasRead-fault c.args.stream.now c.loop-at.places.items c.loop-at.at c.in_err-record.field-0.0 c.loop-at-test.true c.loop-at.invariant (sym c.in_err-record.ensures.value) in
    let given = p.1 in
    let same = p.2 in
    cc

pub loop-at-preserved : goal.loop-at-preserved
loop-at-preserved c =
    let r = c.in_ok-record.record in
    let more = HasRead-more c.args.stream.now c.loop-at.places.items c.loop-at.at c.in_ok-record.record c.loop-at-test.true c.loop-at.invariant (sym c.in_ok-record.ensures.value) c.in_ok-record.ensures.inside c.in_ok-record.ensures.start in
    rw c.in_ok-push.ensures.items more

pub returns-clause-ok : goal.returns-clause-ok
returns-clause-ok c = HasRead-all c.args.stream.now c.loop-at.places.items c.loop-at.at c.loop-at-test.false c.loop-at.invariant
