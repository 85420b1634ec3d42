use Rattle.std.proofs.Common.{ap, ◌∙◌, ◌++◌, false}
use Rattle.std.specs.Prelude.{option_map}
use Rattle.plain_rules.specs.Own.{after_answer}
use Rattle.core_state.specs.Worlds.{NodeState, state_of}
use Rattle.core_state.specs.Caches.{lowered_of}
use Rattle.core_state.specs.Channels.{opens_then}
use Rattle.core_state.specs.Events.{staying, used_locks}
use Rattle.base_words.specs.Faults.{next as one_more}
use Rattle.core_step.proofs.answers.end.Goals as goal

pub returns-clause-state : goal.returns-clause-state
returns-clause-state g c =
    let node = c.args.node.now in
    let s = state_of g.O.Operation.cmd_is node in
    ap (λ (y : NodeState). record y { asked = c.clear.new.self; claims = c.clear-2.new.self; run = c.begin_phase.new.run; turns = c.saturating_add-node.result }) c.keep_staying.ensures
    ∙ (λ i. record {
      past = (c.answer.ensures ∙ ap (after_answer node.past c.into_cmd-cmd.result) c.reply_by.ensures) i;
      cmd = option_map g.O.Operation.cmd_is (c.take.ensures.after i);
      seen = c.put_away.ensures i;
      plan = c.take-2.ensures.after i;
      done = 0;
      tried = false;
      asked = c.clear.ensures i;
      kept = staying s ++ lowered_of s.cache (used_locks s);
      claims = c.clear-2.ensures i;
      opens = (c.open_and_close.ensures ∙ ap (opens_then node.opens c.into_cmd-cmd.result) c.reply_by-2.ensures) i;
      run = c.begin_phase.ensures i;
      stock = record { clusters = node.stock.clusters; numbers = node.stock.numbers };
      cache = node.cache;
      over = node.over;
      turns = (c.saturating_add-node.ensures ∙ ap one_more (ap (λ (y : NodeState). y.turns) c.keep_staying.ensures)) i;
      writes = node.writes;
      reads = node.reads;
      hits = node.hits;
    })
