use Rattle.std.proofs.Common.{◌≡◌, Some, refl, sym, ap, subst, ◌∙◌, rules}
use Rattle.std.specs.Prelude.{is_some, option_copied}
use Rattle.lock_db.specs.Tables.{resource_at}
use Rattle.core_state.specs.Caches.{kept_sequence, writes_at}
use Rattle.core_step.specs.declared.caches.PartNow.{PartNow}
use Rattle.core_step.specs.Cached.{entry_in}
use Rattle.lock_db.specs.declared.name.LockName.TheVariants.{V}
use Rattle.core_state.specs.Worlds.{NodeState, state_of, plain_of}
use Rattle.core_state.specs.Goods.{HasRoom}
use Rattle.core_state.specs.Event as event
use Rattle.core_state.specs.Events.{block_used, has_current, cached_block, cache_looked, cache_used, turned, caching, space_looking, space_using}
use Rattle.base_words.specs.Fields.{block_at}
use Rattle.core_state.proofs.Nodes.{told_at}
use Rattle.core_step.specs.Memory.{takes_none}
use Rattle.core_step.proofs.Caching.{space_used_now, space_looked_now}
use Rattle.core_step.proofs.Outcomes.{makes_as, quiet, lacking, still_room}
use Rattle.core_step.proofs.Ready.{kept_room}
use Rattle.core_step.proofs.step.by_space_look.Goals as goal

pub part_now-part-requires : goal.part_now-part-requires
part_now-part-requires g c =
    let here = told_at (state_of g.O.Operation.cmd_is) c.args.core.now.nodes.items c.args.node c.index-at.result.now c.requires.node.from c.requires.node.to c.index-at.ensures in
    let s = state_of g.O.Operation.cmd_is c.index-at.result.now in
    (c.requires.can s here).volume

pub space_use-requires-clause-volume : goal.space_use-requires-clause-volume
space_use-requires-clause-volume g c =
    let here = told_at (state_of g.O.Operation.cmd_is) c.args.core.now.nodes.items c.args.node c.index-at.result.now c.requires.node.from c.requires.node.to c.index-at.ensures in
    let s = state_of g.O.Operation.cmd_is c.index-at.result.now in
    (c.requires.can s here).volume

pub space_use-requires-clause-geometry : goal.space_use-requires-clause-geometry
space_use-requires-clause-geometry g c s at = (c.requires.can s at).geometry

pub returns-in_err-space_use : goal.returns-in_err-space_use
returns-in_err-space_use g c =
    let here = told_at (state_of g.O.Operation.cmd_is) c.args.core.now.nodes.items c.args.node c.index-at.result.now c.requires.node.from c.requires.node.to c.index-at.ensures in
    let s = state_of g.O.Operation.cmd_is c.index-at.result.now in
    let cached = sym (c.current_block.ensures.some ∙ ap (λ (p : PartNow). is_some (entry_in p V c.args.lbn c.index-at.result.now.cache)) c.part_now-part.ensures) ∙ ap is_some c.in-Some.is in
    let makes = makes_as (c.requires.makes s here) (space_used_now (plain_of g.O.Operation.cmd_is c.args.core.now) s c.args.need.clusters c.args.need.number c.args.lbn cached) in
    lacking _ (search rules) c.in_err-space_use.ensures.same (ap (takes_none c.args.core.now.locks c.args.node) makes.event) (ap (λ m. m.image) c.in_err-space_use.ensures.mirror) (still_room c.in_err-space_use.ensures.same c.in_err-space_use.ensures.room c.requires.room)

pub returns-in-Some : goal.returns-in-Some
returns-in-Some g c =
    let here = told_at (state_of g.O.Operation.cmd_is) c.args.core.now.nodes.items c.args.node c.index-at.result.now c.requires.node.from c.requires.node.to c.index-at.ensures in
    let s = state_of g.O.Operation.cmd_is c.index-at.result.now in
    let cached = sym (c.current_block.ensures.some ∙ ap (λ (p : PartNow). is_some (entry_in p V c.args.lbn c.index-at.result.now.cache)) c.part_now-part.ensures) ∙ ap is_some c.in-Some.is in
    let makes = makes_as (c.requires.makes s here) (space_used_now (plain_of g.O.Operation.cmd_is c.args.core.now) s c.args.need.clusters c.args.need.number c.args.lbn cached) in
    let w = plain_of g.O.Operation.cmd_is c.args.core.now in
    let world = c.in_ok-space_use.ensures.world (λ q at.
    let one : Some s ≡ Some q = sym here ∙ at in
    let mine : s ≡ q = cc in (
      c.current_block.ensures.block c.in-Some.block.now (ap option_copied c.in-Some.is) ∙ ap (λ (p : PartNow). cached_block (entry_in p V c.args.lbn c.index-at.result.now.cache)) c.part_now-part.ensures ∙ ap (λ (p : NodeState). block_used w p V c.args.lbn) mine,
      sym (ap (λ (p : NodeState). has_current w p V c.args.lbn) mine) ∙ sym (c.current_block.ensures.some ∙ ap (λ (p : PartNow). is_some (entry_in p V c.args.lbn c.index-at.result.now.cache)) c.part_now-part.ensures) ∙ ap is_some c.in-Some.is,
    )) in
    quiet _ makes world refl (ap (λ m. m.image) c.in_ok-space_use.ensures.mirror) (ap (λ m. m.blocks) c.in_ok-space_use.ensures.mirror)
    (subst (λ k. HasRoom (plain_of g.O.Operation.cmd_is c.space_use.new.core) k) (sym c.in_ok-space_use.ensures.room) (kept_room (plain_of g.O.Operation.cmd_is c.args.core.now) c.args.node s here (event.SpaceUse c.args.need.clusters c.args.need.number c.args.lbn) (turned (caching (cache_used (plain_of g.O.Operation.cmd_is c.args.core.now) s V c.args.lbn) (space_using s c.args.need.clusters c.args.need.number c.args.lbn (block_used (plain_of g.O.Operation.cmd_is c.args.core.now) s V c.args.lbn)))) c.args.core.now.history.room refl refl refl refl c.requires.room (plain_of g.O.Operation.cmd_is c.space_use.new.core) world))

pub space_look-requires-clause-geometry : goal.space_look-requires-clause-geometry
space_look-requires-clause-geometry g c s at = (c.requires.can s at).geometry

pub space_look-requires-clause-kept : goal.space_look-requires-clause-kept
space_look-requires-clause-kept g c =
    c.kept_sequence-seq.ensures ∙ ap (λ (p : PartNow). kept_sequence p.valid (writes_at c.args.node (resource_at V c.args.core.now.locks)) p.seq) c.part_now-part.ensures

pub space_look-requires-clause-within : goal.space_look-requires-clause-within
space_look-requires-clause-within g c =
    let here = told_at (state_of g.O.Operation.cmd_is) c.args.core.now.nodes.items c.args.node c.index-at.result.now c.requires.node.from c.requires.node.to c.index-at.ensures in
    let s = state_of g.O.Operation.cmd_is c.index-at.result.now in
    (c.requires.can s here).look c.args.need.clusters c.args.need.number c.args.lbn refl

pub returns-in_err-space_look : goal.returns-in_err-space_look
returns-in_err-space_look g c =
    let here = told_at (state_of g.O.Operation.cmd_is) c.args.core.now.nodes.items c.args.node c.index-at.result.now c.requires.node.from c.requires.node.to c.index-at.ensures in
    let s = state_of g.O.Operation.cmd_is c.index-at.result.now in
    let none = sym (c.current_block.ensures.some ∙ ap (λ (p : PartNow). is_some (entry_in p V c.args.lbn c.index-at.result.now.cache)) c.part_now-part.ensures) ∙ ap is_some c.in_default.is in
    let makes = makes_as (c.requires.makes s here) (space_looked_now (plain_of g.O.Operation.cmd_is c.args.core.now) s c.args.need.clusters c.args.need.number c.args.lbn none) in
    lacking _ (search rules) c.in_err-space_look.ensures.same (ap (takes_none c.args.core.now.locks c.args.node) makes.event) (ap (λ m. m.image) c.in_err-space_look.ensures.mirror) (still_room c.in_err-space_look.ensures.same c.in_err-space_look.ensures.room c.requires.room)

pub returns : goal.returns
returns g c =
    let here = told_at (state_of g.O.Operation.cmd_is) c.args.core.now.nodes.items c.args.node c.index-at.result.now c.requires.node.from c.requires.node.to c.index-at.ensures in
    let s = state_of g.O.Operation.cmd_is c.index-at.result.now in
    let none = sym (c.current_block.ensures.some ∙ ap (λ (p : PartNow). is_some (entry_in p V c.args.lbn c.index-at.result.now.cache)) c.part_now-part.ensures) ∙ ap is_some c.in_default.is in
    let makes = makes_as (c.requires.makes s here) (space_looked_now (plain_of g.O.Operation.cmd_is c.args.core.now) s c.args.need.clusters c.args.need.number c.args.lbn none) in
    let world = c.in_ok-space_look.ensures.world in
    quiet _ makes world refl (ap (λ m. m.image) c.in_ok-space_look.ensures.mirror) (ap (λ m. m.blocks) c.in_ok-space_look.ensures.mirror)
    (subst (λ k. HasRoom (plain_of g.O.Operation.cmd_is c.space_look.new.core) k) (sym c.in_ok-space_look.ensures.room) (kept_room (plain_of g.O.Operation.cmd_is c.args.core.now) c.args.node s here (event.SpaceLook c.args.need.clusters c.args.need.number c.args.lbn) (turned (caching (cache_looked (plain_of g.O.Operation.cmd_is c.args.core.now) c.args.node s V c.args.lbn) (space_looking s c.args.need.clusters c.args.need.number c.args.lbn (block_at c.args.core.now.mirror.blocks c.args.lbn)))) c.args.core.now.history.room refl refl refl refl c.requires.room (plain_of g.O.Operation.cmd_is c.space_look.new.core) world))
