use Rattle.std.proofs.Common.{◌∙◌, Some, sym}
use Rattle.run_engine.proofs.Rotating.{found_first, found_round, next_alive, next_of_world, next_few, next_over}
use Rattle.run_trace.proofs.rounds.next_node.Goals as goal

pub returns-in-Some-clause-next : goal.returns-in-Some-clause-next
returns-in-Some-clause-next g c = sym (found_first c.args.w.now.world c.args.from _ _ c.nodes_of-last.ensures.count (sym c.first_from.ensures ∙ c.in-Some.is))

pub returns-in-Some-clause-alive : goal.returns-in-Some-clause-alive
returns-in-Some-clause-alive g c = next_alive c.args.w.now.world c.args.from (Some c.in-Some.node) c.requires.from (returns-in-Some-clause-next g c)

pub returns-in-Some-clause-of_world : goal.returns-in-Some-clause-of_world
returns-in-Some-clause-of_world g c = next_of_world c.args.w.now.world c.args.from (Some c.in-Some.node) c.requires.from (returns-in-Some-clause-next g c)

pub returns-in-Some-clause-few : goal.returns-in-Some-clause-few
returns-in-Some-clause-few g c =
    next_few c.args.w.now.world c.args.from c.nodes_of-last.result (Some c.in-Some.node) c.nodes_of-last.ensures.count c.nodes_of-last.ensures.few c.requires.from (returns-in-Some-clause-next g c)

pub returns-in-None-clause-next : goal.returns-in-None-clause-next
returns-in-None-clause-next g c =
    c.first_from-in-None.ensures ∙ found_round c.args.w.now.world c.args.from _ c.nodes_of-last.ensures.count (sym c.first_from.ensures ∙ c.in-None.is)

pub returns-in-None-clause-alive : goal.returns-in-None-clause-alive
returns-in-None-clause-alive g c = next_alive c.args.w.now.world c.args.from c.first_from-in-None.result c.requires.from (returns-in-None-clause-next g c)

pub returns-in-None-clause-of_world : goal.returns-in-None-clause-of_world
returns-in-None-clause-of_world g c = next_of_world c.args.w.now.world c.args.from c.first_from-in-None.result c.requires.from (returns-in-None-clause-next g c)

pub returns-in-None-clause-few : goal.returns-in-None-clause-few
returns-in-None-clause-few g c =
    next_few c.args.w.now.world c.args.from c.nodes_of-last.result c.first_from-in-None.result c.nodes_of-last.ensures.count c.nodes_of-last.ensures.few c.requires.from (returns-in-None-clause-next g c)

pub returns-in-None-clause-over : goal.returns-in-None-clause-over
returns-in-None-clause-over g c = next_over c.args.w.now.world c.args.from c.first_from-in-None.result (returns-in-None-clause-next g c)
