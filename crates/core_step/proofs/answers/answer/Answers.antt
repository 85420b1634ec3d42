use Rattle.std.proofs.lemmas.List.{map-append}
use Rattle.std.proofs.Common.{map, refl, ap, ◌∙◌, ◌++◌, ◌∷◌, []}
use Rattle.plain_cat.specs.declared.history.Entry.TheVariants.{Done}
use Rattle.core_state.specs.Worlds.{shown, state_of, plain_of}
use Rattle.core_state.specs.Events.{all_put_back}
use Rattle.core_state.proofs.Nodes.{told_at}
use Rattle.core_state.specs.Channels.{closed_off}
use Rattle.core_step.proofs.Steps.{is_there, may_close_now, answered_so}
use Rattle.core_step.proofs.answers.answer.Goals as goal

pub give_all-requires-clause-plan : goal.give_all-requires-clause-plan
give_all-requires-clause-plan g c = (c.requires.ends (state_of g.O.Operation.cmd_is c.index_mut-at.result.now) (told_at (state_of g.O.Operation.cmd_is) c.args.core.now.nodes.items c.args.node c.index_mut-at.result.now c.requires.node.from c.requires.node.to c.index_mut-at.ensures.value)).plan

pub give_all-requires-clause-may : goal.give_all-requires-clause-may
give_all-requires-clause-may g c = (c.requires.ends (state_of g.O.Operation.cmd_is c.index_mut-at.result.now) (told_at (state_of g.O.Operation.cmd_is) c.args.core.now.nodes.items c.args.node c.index_mut-at.result.now c.requires.node.from c.requires.node.to c.index_mut-at.ensures.value)).gives

pub end-cmd-requires-clause-op : goal.end-cmd-requires-clause-op
end-cmd-requires-clause-op g c =
    let at = told_at (state_of g.O.Operation.cmd_is) c.args.core.now.nodes.items c.args.node c.index_mut-at.result.now c.requires.node.from c.requires.node.to c.index_mut-at.ensures.value in
    is_there g.O.Operation.cmd_is c.index_mut-at.result.now.op (c.requires.ends (state_of g.O.Operation.cmd_is c.index_mut-at.result.now) at).cmd

pub end-cmd-requires-clause-plan : goal.end-cmd-requires-clause-plan
end-cmd-requires-clause-plan g c =
    let at = told_at (state_of g.O.Operation.cmd_is) c.args.core.now.nodes.items c.args.node c.index_mut-at.result.now c.requires.node.from c.requires.node.to c.index_mut-at.ensures.value in
    (c.requires.ends (state_of g.O.Operation.cmd_is c.index_mut-at.result.now) at).plan

pub end-cmd-requires-clause-few : goal.end-cmd-requires-clause-few
end-cmd-requires-clause-few g c =
    let at = told_at (state_of g.O.Operation.cmd_is) c.args.core.now.nodes.items c.args.node c.index_mut-at.result.now c.requires.node.from c.requires.node.to c.index_mut-at.ensures.value in
    (c.requires.ends (state_of g.O.Operation.cmd_is c.index_mut-at.result.now) at).few

pub end-cmd-requires-clause-room : goal.end-cmd-requires-clause-room
end-cmd-requires-clause-room g c =
    let at = told_at (state_of g.O.Operation.cmd_is) c.args.core.now.nodes.items c.args.node c.index_mut-at.result.now c.requires.node.from c.requires.node.to c.index_mut-at.ensures.value in
    (c.requires.ends (state_of g.O.Operation.cmd_is c.index_mut-at.result.now) at).room

pub close_off-requires : goal.close_off-requires
close_off-requires g c =
    let f = state_of g.O.Operation.cmd_is in
    let at = told_at f c.args.core.now.nodes.items c.args.node c.index_mut-at.result.now c.requires.node.from c.requires.node.to c.index_mut-at.ensures.value in
    may_close_now c.args.node c.args.core.now.geometry (f c.index_mut-at.result.now) c.args.core.now.locks c.give_all.new.locks c.end-cmd.result.cmd c.end-cmd.result.plan c.end-cmd.result.tried c.end-cmd.result.had c.reply_by.result.now
    c.end-cmd.ensures.cmd c.end-cmd.ensures.plan c.end-cmd.ensures.tried c.end-cmd.ensures.had c.reply_by.ensures c.give_all.ensures
    (c.requires.ends (f c.index_mut-at.result.now) at).closes

pub returns-clause-world : goal.returns-clause-world
returns-clause-world g c x p cmd plan =
    let s = state_of g.O.Operation.cmd_is c.index_mut-at.result.now in
    answered_so (state_of g.O.Operation.cmd_is) c.args.core.now.nodes.items (plain_of g.O.Operation.cmd_is c.args.core.now) c.args.node c.index_mut-at.result.now c.end-cmd.new.node
    c.requires.node.from c.requires.node.to c.index_mut-at.ensures.value refl x p cmd plan c.end-cmd.result.cmd c.end-cmd.result.plan c.end-cmd.result.tried c.end-cmd.ensures.cmd c.end-cmd.ensures.plan c.end-cmd.ensures.tried c.end-cmd.ensures.state
    c.close_off.new.locks (map shown c.append.new.self.items)
    (c.close_off.ensures ∙ ap (closed_off c.args.node c.end-cmd.result.had c.end-cmd.result.cmd c.reply_by.result.now) c.give_all.ensures ∙ (λ i. closed_off c.args.node (c.end-cmd.ensures.had i) c.end-cmd.result.cmd (c.reply_by.ensures i) (all_put_back (plain_of g.O.Operation.cmd_is c.args.core.now) c.args.node s)))
    (ap (map shown) c.append.ensures.items ∙ map-append shown c.args.core.now.history.items (Done c.args.node c.end-cmd.result.cmd c.into_reply-reply.result ∷ []) ∙ ap (λ a. map shown c.args.core.now.history.items ++ Done c.args.node c.end-cmd.result.cmd a ∷ []) c.into_reply-reply.ensures)
