use Rattle.std.proofs.Common.{◌≤◌, ℕ, List, length, ap, arith}
use Rattle.log_check.proofs.Ends.{was_read, were_loaded, volumes_err}
use Rattle.log_check.proofs.top.check.Goals as goal

pub returns-in-Ok-load-2-clause-end : goal.returns-in-Ok-load-2-clause-end
returns-in-Ok-load-2-clause-end g c =
    let left = g.T.TextIn.left c.args.log.now in
    let size_before = g.I.ImageDev.size c.args.before in
    let before = g.I.ImageDev.told c.args.before in
    let size_after = g.J.ImageDev.size c.args.after in
    let after = g.J.ImageDev.told c.args.after in
    let shown = ap (λ (bytes : List ℕ). length bytes) c.as_slice.ensures.value in
    let count = c.as_slice.ensures.len in
    let within = c.in-Ok.ensures.within in
    let few : length c.in-Ok.text.items ≤ 16777216 = omega arith in
    let read = was_read left size_before before size_after after c.in-Ok.text.items c.in-Ok.ensures.text few in
    let loaded = were_loaded left size_before before size_after after read c.in-Ok-load.ensures.inside c.in-Ok-load-2.ensures.inside in
    volumes_err left size_before before size_after after
    (g.T.TextIn.faults c.args.log.now) (g.T.TextIn.faults c.text_of.new.log)
    (g.I.ImageDev.faults c.args.before) (g.I.ImageDev.faults c.judge_mirrors.result.before)
    (g.J.ImageDev.faults c.args.after) (g.J.ImageDev.faults c.judge_mirrors.result.after)
    c.judge_mirrors.result.outcome _ _ c.in-Ok.text.items c.as_slice.result.now
    c.as_slice.ensures.value loaded c.in-Ok-load.ensures.blocks c.in-Ok-load-2.ensures.blocks c.in-Ok.ensures.text c.judge_mirrors.ensures.end
