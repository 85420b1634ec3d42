use Rattle.std.proofs.Common.{◌≡◌, refl, sym, ap, ◌∙◌, inl, inr, true, Some, None}
use Rattle.std.specs.Prelude.{◌==◌, [], not, filter, if◌then◌else◌}
use Rattle.vol_parts.specs.declared.geometry.Part.TheVariants.{IndexBitmap}
use Rattle.vol_spell.specs.Places.{place_of}
use Rattle.op_law.specs.declared.need.PlanWrite.{PlanWrite}
use Rattle.op_law.specs.Going.{with_space}
use Rattle.extent_cache.specs.Stock.{merged}
use Rattle.core_space.specs.declared.run.Phase.TheVariants as phase
use Rattle.core_state.specs.Worlds.{state_of}
use Rattle.core_state.specs.Stocks.{has_bit_at}
use Rattle.core_state.specs.Events.{is_last}
use Rattle.core_step.proofs.SpaceStates.{taking_so, next_is, last_so}
use Rattle.core_step.proofs.searches.keep_taken.Goals as goal

pub drop_at-requires-clause-geometry : goal.drop_at-requires-clause-geometry
drop_at-requires-clause-geometry g c =
    let node = c.args.node.now in
    let s = state_of g.O.Operation.cmd_is node in
    let w = c.index-writes-node.result in
    let there = next_is node.run.writes c.items-writes.result.now node.run.made w c.requires.next c.items-writes.ensures c.index-writes-node.is in
    (c.requires.can w there).geometry

pub drop_at-requires-clause-place : goal.drop_at-requires-clause-place
drop_at-requires-clause-place g c =
    let node = c.args.node.now in
    let s = state_of g.O.Operation.cmd_is node in
    let w = c.index-writes-node.result in
    let there = next_is node.run.writes c.items-writes.result.now node.run.made w c.requires.next c.items-writes.ensures c.index-writes-node.is in
    (c.requires.can w there).place (inl c.in-Drain.is)

pub drop_at-requires-in-Back-clause-geometry : goal.drop_at-requires-in-Back-clause-geometry
drop_at-requires-in-Back-clause-geometry g c =
    let node = c.args.node.now in
    let s = state_of g.O.Operation.cmd_is node in
    let w = c.index-writes-node.result in
    let there = next_is node.run.writes c.items-writes.result.now node.run.made w c.requires.next c.items-writes.ensures c.index-writes-node.is in
    (c.requires.can w there).geometry

pub drop_at-requires-in-Back-clause-place : goal.drop_at-requires-in-Back-clause-place
drop_at-requires-in-Back-clause-place g c =
    let node = c.args.node.now in
    let s = state_of g.O.Operation.cmd_is node in
    let w = c.index-writes-node.result in
    let there = next_is node.run.writes c.items-writes.result.now node.run.made w c.requires.next c.items-writes.ensures c.index-writes-node.is in
    (c.requires.can w there).place (inr c.in-Back.is)

pub returns-in-Fill-clause-state : goal.returns-in-Fill-clause-state
returns-in-Fill-clause-state g c v next =
    let node = c.args.node.now in
    let s = state_of g.O.Operation.cmd_is node in
    let w = c.index-writes-node.result in
    let there = next_is node.run.writes c.items-writes.result.now node.run.made w c.requires.next c.items-writes.ensures c.index-writes-node.is in
    let f : Some w ≡ Some v = sym there ∙ next in
    let same : w ≡ v = cc in
    let cs = c.put_all.ensures.clusters ∙ ap (λ xs. merged xs node.stock.clusters) (c.items.ensures.items ∙ ap (λ (y : PlanWrite). y.clusters) same) in
    let ns = c.put_all.ensures.numbers ∙ ap (λ xs. merged xs node.stock.numbers) (c.items-in-Fill.ensures ∙ ap (λ (y : PlanWrite). y.numbers) same) in
    (λ i. record s { stock = record { clusters = cs i; numbers = ns i } }) ∙ taking_so phase.Fill true s v c.in-Fill.is (last_so node.run.writes c.items-writes.result.now node.run.made c.items-writes.ensures c.if-last.true)

pub returns-in-Drain-clause-state : goal.returns-in-Drain-clause-state
returns-in-Drain-clause-state g c v next =
    let node = c.args.node.now in
    let s = state_of g.O.Operation.cmd_is node in
    let w = c.index-writes-node.result in
    let there = next_is node.run.writes c.items-writes.result.now node.run.made w c.requires.next c.items-writes.ensures c.index-writes-node.is in
    let f : Some w ≡ Some v = sym there ∙ next in
    let same : w ≡ v = cc in
    let lbn = ap (λ (y : PlanWrite). y.lbn) same in
    let cs = c.drop_at.ensures.clusters ∙ ap (λ l. filter (λ q. not (has_bit_at node.seen.geometry l q)) node.stock.clusters) lbn in
    let ns = c.drop_at.ensures.numbers ∙ ap (λ l. if place_of node.seen.geometry IndexBitmap == l then [] else node.stock.numbers) lbn in
    (λ i. record s { stock = record { clusters = cs i; numbers = ns i } }) ∙ taking_so phase.Drain (is_last s.run) s v c.in-Drain.is refl

pub returns-in-Back-clause-state : goal.returns-in-Back-clause-state
returns-in-Back-clause-state g c v next =
    let node = c.args.node.now in
    let s = state_of g.O.Operation.cmd_is node in
    let w = c.index-writes-node.result in
    let there = next_is node.run.writes c.items-writes.result.now node.run.made w c.requires.next c.items-writes.ensures c.index-writes-node.is in
    let f : Some w ≡ Some v = sym there ∙ next in
    let same : w ≡ v = cc in
    let lbn = ap (λ (y : PlanWrite). y.lbn) same in
    let cs = c.drop_at-in-Back.ensures.clusters ∙ ap (λ l. filter (λ q. not (has_bit_at node.seen.geometry l q)) node.stock.clusters) lbn in
    let ns = c.drop_at-in-Back.ensures.numbers ∙ ap (λ l. if place_of node.seen.geometry IndexBitmap == l then [] else node.stock.numbers) lbn in
    (λ i. record s { stock = record { clusters = cs i; numbers = ns i } }) ∙ taking_so phase.Back (is_last s.run) s v c.in-Back.is refl

pub returns-in-Last-clause-state : goal.returns-in-Last-clause-state
returns-in-Last-clause-state g c v next =
    let node = c.args.node.now in
    let s = state_of g.O.Operation.cmd_is node in
    let w = c.index-writes-node.result in
    let there = next_is node.run.writes c.items-writes.result.now node.run.made w c.requires.next c.items-writes.ensures c.index-writes-node.is in
    let f : Some w ≡ Some v = sym there ∙ next in
    let same : w ≡ v = cc in
    let last = last_so node.run.writes c.items-writes.result.now node.run.made c.items-writes.ensures c.if-last-2.true in
    let cs = c.replace.ensures.value ∙ (c.requires.can v next).ready c.in-Last.is last in
    let number = ap (λ (y : PlanWrite). y.number) same in
    let left = c.replace.ensures.after ∙ c.new.ensures in
    (λ i. record s { seen = with_space (cs i) (number i) None s.seen; run = record s.run { ready = left i } }) ∙ taking_so phase.Last true s v c.in-Last.is last
