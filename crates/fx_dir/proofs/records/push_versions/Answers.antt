use Rattle.std.proofs.Common.{◌≡◌, ◌+◌, ◌-◌, suc, arith, sym, ◌∙◌, append-nil, ap, Some}
use Rattle.fx_dir.proofs.Streams.{versions-go, versions-fail}
use Rattle.fx_dir.proofs.records.push_versions.Goals as goal

pub returns-then-not-is_version : goal.returns-then-not-is_version
returns-then-not-is_version c =
    let n = c.args.count - c.loop-k.k - 1 in
    let s : suc n + c.loop-k.k ≡ c.args.count = omega arith in
    sym (versions-fail _ c.loop-k.list.items c.args.head.now c.args.bytes.now c.split_at.result.1.now c.loop-k.k n c.split_at.ensures.back (sym c.is_version.ensures ∙ c.if-not-is_version.true) (c.loop-k.invariant (suc n) s))

pub loop-k-preserved : goal.loop-k-preserved
loop-k-preserved c = λ n h.
    let s : suc n + c.loop-k.k ≡ c.args.count = omega arith in
    let e = c.entry_in.ensures in
    let m = c.in_ok-push.ensures.items in
    versions-go _ c.loop-k.list.items _ c.args.head.now c.args.bytes.now c.split_at.result.1.now c.loop-k.k n c.split_at.ensures.back (sym c.is_version.ensures ∙ c.if-not-is_version.false) (c.loop-k.invariant (suc n) s) (cc (m, e))

pub returns : goal.returns
returns c = sym (c.loop-k.invariant 0 (omega arith) ∙ ap Some (append-nil c.loop-k.list.items))
