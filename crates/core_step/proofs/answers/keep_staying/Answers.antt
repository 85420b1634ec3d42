use Rattle.std.proofs.Common.{[], refl, ap}
use Rattle.node_locks.specs.Held.{Row}
use Rattle.core_state.specs.Worlds.{state_of}
use Rattle.core_step.proofs.Returning.{kept_so, room_asked, room_claims}
use Rattle.core_step.proofs.answers.keep_staying.Goals as goal

pub keep_lowered-requires : goal.keep_lowered-requires
keep_lowered-requires g c =
    let s = state_of g.O.Operation.cmd_is c.args.node.now in
    room_asked s c.has_any-stocked.result c.items.result.now s.claims c.keep_staying.new.self [] c.has_any-stocked.ensures c.items.ensures refl c.keep_staying.ensures c.requires

pub keep_lowered-requires-2 : goal.keep_lowered-requires-2
keep_lowered-requires-2 g c =
    let s = state_of g.O.Operation.cmd_is c.args.node.now in
    room_claims s c.has_any-stocked.result c.items.result.now c.items-2.result.now c.keep_staying.new.self c.keep_lowered.new.kept c.has_any-stocked.ensures c.items.ensures c.items-2.ensures c.keep_staying.ensures c.requires c.keep_lowered.ensures

pub returns : goal.returns
returns g c =
    let s = state_of g.O.Operation.cmd_is c.args.node.now in
    ap (λ (ls : Row). record s { kept = ls })
    (kept_so s c.has_any-stocked.result c.items.result.now c.items-2.result.now c.keep_staying.new.self c.keep_lowered.new.kept c.has_any-stocked.ensures c.items.ensures c.items-2.ensures c.keep_staying.ensures c.keep_lowered-2.new.kept c.keep_lowered.ensures c.keep_lowered-2.ensures)
