use Rattle.std.proofs.Common.{refl, sym, ap, subst, ◌∙◌, rules}
use Rattle.std.specs.Prelude.{is_some, option_copied}
use Rattle.lock_db.specs.Tables.{resource_at}
use Rattle.core_state.specs.Caches.{kept_sequence, writes_at}
use Rattle.core_step.specs.declared.caches.PartNow.{PartNow}
use Rattle.core_step.specs.Cached.{entry_in}
use Rattle.core_state.specs.Worlds.{NodeState, plain_of}
use Rattle.core_state.specs.Goods.{HasRoom}
use Rattle.core_state.specs.Events.{block_used, has_current, cached_block}
use Rattle.op_law.specs.declared.need.Need.TheVariants as need
use Rattle.core_step.specs.Memory.{takes_none}
use Rattle.core_step.proofs.Caching.{used_now, looked_now}
use Rattle.core_step.proofs.Outcomes.{makes_as, quiet, lacking, still_room}
use Rattle.core_step.proofs.Ready.{IsItem, item_of, tells, one_node, event_need, look_within, look_room, use_room, world_geometry}
use Rattle.core_step.proofs.step.by_look.Goals as goal

pub part_now-part-requires : goal.part_now-part-requires
part_now-part-requires g c = world_geometry c.requires.good c.requires.ready

pub returns-in_err-use_block : goal.returns-in_err-use_block
returns-in_err-use_block g c =
    let it : IsItem g.O.Operation.cmd_is c.requires.ready c.index-at.result.now = item_of g.O.Operation.cmd_is c.args.core.now.nodes.items c.requires.ready c.index-at.result.now refl c.requires.node c.index-at.ensures in
    let is = c.requires.needs c.requires.ready.state c.requires.ready.cmd c.requires.ready.at c.requires.ready.has in
    let cached = sym (ap (λ (q : NodeState). has_current (plain_of g.O.Operation.cmd_is c.args.core.now) q c.args.name c.args.lbn) (tells it)) ∙ sym (c.current_block.ensures.some ∙ ap (λ (p : PartNow). is_some (entry_in p c.args.name c.args.lbn c.index-at.result.now.cache)) c.part_now-part.ensures) ∙ ap is_some c.in-Some.is in
    let makes = makes_as (event_need c.requires.good c.requires.ready c.requires.plan (need.Block c.args.name c.args.lbn) is) (used_now (plain_of g.O.Operation.cmd_is c.args.core.now) c.requires.ready.state c.args.name c.args.lbn cached) in
    lacking _ (search rules) c.in_err-use_block.ensures.same (ap (takes_none c.args.core.now.locks c.args.node) makes.event) (ap (λ m. m.image) c.in_err-use_block.ensures.mirror) (still_room c.in_err-use_block.ensures.same c.in_err-use_block.ensures.room c.requires.room)

pub returns-in-Some : goal.returns-in-Some
returns-in-Some g c =
    let it : IsItem g.O.Operation.cmd_is c.requires.ready c.index-at.result.now = item_of g.O.Operation.cmd_is c.args.core.now.nodes.items c.requires.ready c.index-at.result.now refl c.requires.node c.index-at.ensures in
    let is = c.requires.needs c.requires.ready.state c.requires.ready.cmd c.requires.ready.at c.requires.ready.has in
    let cached = sym (ap (λ (q : NodeState). has_current (plain_of g.O.Operation.cmd_is c.args.core.now) q c.args.name c.args.lbn) (tells it)) ∙ sym (c.current_block.ensures.some ∙ ap (λ (p : PartNow). is_some (entry_in p c.args.name c.args.lbn c.index-at.result.now.cache)) c.part_now-part.ensures) ∙ ap is_some c.in-Some.is in
    let makes = makes_as (event_need c.requires.good c.requires.ready c.requires.plan (need.Block c.args.name c.args.lbn) is) (used_now (plain_of g.O.Operation.cmd_is c.args.core.now) c.requires.ready.state c.args.name c.args.lbn cached) in
    let w = plain_of g.O.Operation.cmd_is c.args.core.now in
    let world = c.in_ok-use_block.ensures.world c.args.name (λ s at. (
      c.current_block.ensures.block c.in-Some.block.now (ap option_copied c.in-Some.is) ∙ ap (λ (p : PartNow). cached_block (entry_in p c.args.name c.args.lbn c.index-at.result.now.cache)) c.part_now-part.ensures ∙ ap (λ (q : NodeState). block_used w q c.args.name c.args.lbn) (one_node it s at),
      sym (ap (λ (q : NodeState). has_current w q c.args.name c.args.lbn) (one_node it s at)) ∙ sym (c.current_block.ensures.some ∙ ap (λ (p : PartNow). is_some (entry_in p c.args.name c.args.lbn c.index-at.result.now.cache)) c.part_now-part.ensures) ∙ ap is_some c.in-Some.is,
    )) in
    quiet _ makes world refl (ap (λ m. m.image) c.in_ok-use_block.ensures.mirror) (ap (λ m. m.blocks) c.in_ok-use_block.ensures.mirror)
    (subst (λ k. HasRoom (plain_of g.O.Operation.cmd_is c.use_block.new.core) k) (sym c.in_ok-use_block.ensures.room) (use_room c.requires.good c.requires.ready c.args.name c.args.lbn c.args.core.now.history.room c.requires.room (plain_of g.O.Operation.cmd_is c.use_block.new.core) world))

pub look-requires-clause-kept : goal.look-requires-clause-kept
look-requires-clause-kept g c =
    c.kept_sequence-seq.ensures ∙ ap (λ (p : PartNow). kept_sequence p.valid (writes_at c.args.node (resource_at c.args.name c.args.core.now.locks)) p.seq) c.part_now-part.ensures

pub look-requires-clause-within : goal.look-requires-clause-within
look-requires-clause-within g c =
    let is = c.requires.needs c.requires.ready.state c.requires.ready.cmd c.requires.ready.at c.requires.ready.has in
    look_within c.requires.good c.requires.ready c.args.name c.args.lbn is

pub returns-in_err-look : goal.returns-in_err-look
returns-in_err-look g c =
    let it : IsItem g.O.Operation.cmd_is c.requires.ready c.index-at.result.now = item_of g.O.Operation.cmd_is c.args.core.now.nodes.items c.requires.ready c.index-at.result.now refl c.requires.node c.index-at.ensures in
    let is = c.requires.needs c.requires.ready.state c.requires.ready.cmd c.requires.ready.at c.requires.ready.has in
    let none = sym (ap (λ (q : NodeState). has_current (plain_of g.O.Operation.cmd_is c.args.core.now) q c.args.name c.args.lbn) (tells it)) ∙ sym (c.current_block.ensures.some ∙ ap (λ (p : PartNow). is_some (entry_in p c.args.name c.args.lbn c.index-at.result.now.cache)) c.part_now-part.ensures) ∙ ap is_some c.in_default.is in
    let makes = makes_as (event_need c.requires.good c.requires.ready c.requires.plan (need.Block c.args.name c.args.lbn) is) (looked_now (plain_of g.O.Operation.cmd_is c.args.core.now) c.requires.ready.state c.args.name c.args.lbn none) in
    lacking _ (search rules) c.in_err-look.ensures.same (ap (takes_none c.args.core.now.locks c.args.node) makes.event) (ap (λ m. m.image) c.in_err-look.ensures.mirror) (still_room c.in_err-look.ensures.same c.in_err-look.ensures.room c.requires.room)

pub returns : goal.returns
returns g c =
    let it : IsItem g.O.Operation.cmd_is c.requires.ready c.index-at.result.now = item_of g.O.Operation.cmd_is c.args.core.now.nodes.items c.requires.ready c.index-at.result.now refl c.requires.node c.index-at.ensures in
    let is = c.requires.needs c.requires.ready.state c.requires.ready.cmd c.requires.ready.at c.requires.ready.has in
    let none = sym (ap (λ (q : NodeState). has_current (plain_of g.O.Operation.cmd_is c.args.core.now) q c.args.name c.args.lbn) (tells it)) ∙ sym (c.current_block.ensures.some ∙ ap (λ (p : PartNow). is_some (entry_in p c.args.name c.args.lbn c.index-at.result.now.cache)) c.part_now-part.ensures) ∙ ap is_some c.in_default.is in
    let makes = makes_as (event_need c.requires.good c.requires.ready c.requires.plan (need.Block c.args.name c.args.lbn) is) (looked_now (plain_of g.O.Operation.cmd_is c.args.core.now) c.requires.ready.state c.args.name c.args.lbn none) in
    let world = c.in_ok-look.ensures.world in
    quiet _ makes world refl (ap (λ m. m.image) c.in_ok-look.ensures.mirror) (ap (λ m. m.blocks) c.in_ok-look.ensures.mirror)
    (subst (λ k. HasRoom (plain_of g.O.Operation.cmd_is c.look.new.core) k) (sym c.in_ok-look.ensures.room) (look_room c.requires.good c.requires.ready c.args.name c.args.lbn c.args.core.now.history.room c.requires.room (plain_of g.O.Operation.cmd_is c.look.new.core) world))
