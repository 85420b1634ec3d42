use Rattle.std.proofs.Common.{length, ◌<◌, true, false, slice_set, refl, sym, ap, subst, ◌∙◌, rules, inl, inr, arith}
use Rattle.std.specs.Prelude.{is_some}
use Rattle.core_state.specs.Worlds.{plain_of}
use Rattle.core_state.specs.Goods.{HasRoom}
use Rattle.core_state.specs.Event as event
use Rattle.core_state.specs.Events.{by_rule, by_put, or_use, turned, claiming, caching, cache_written, space_writing, lowering, lowering_both, returning}
use Rattle.core_step.specs.Memory.{takes_none}
use Rattle.core_step.specs.Moving.{CanMove}
use Rattle.core_step.specs.Spaces.{write_of}
use Rattle.core_step.proofs.Begun.{ends_so}
use Rattle.core_step.proofs.Outcomes.{makes_as, quiet, wrote, lacking, failed, still_room}
use Rattle.core_step.proofs.Ready.{kept_room, goes_granted, goes_queued}
use Rattle.core_step.proofs.Ruled.{claim_told}
use Rattle.core_step.proofs.Setting.{there_now}
use Rattle.core_step.proofs.Steps.{happen_here}
use Rattle.core_step.proofs.step.by_rule.Goals as goal

pub claim-requires-clause-may : goal.claim-requires-clause-may
claim-requires-clause-may g c =
    let th = there_now (plain_of g.O.Operation.cmd_is c.args.core.now) c.args.node c.requires.node in
    let so = ap (by_rule th.state c.args.phase c.args.need) c.in-Ask.is in
    ((c.requires.can th.state th.at).claim c.args.phase c.in-Ask.name c.in-Ask.mode so).may

pub claim-requires-clause-few : goal.claim-requires-clause-few
claim-requires-clause-few g c s at =
    let its = c.requires.can s at in
    let few = its.kept in
    (omega arith, its.claims)

pub returns-in_err-claim-in-Ask : goal.returns-in_err-claim-in-Ask
returns-in_err-claim-in-Ask g c =
    let th = there_now (plain_of g.O.Operation.cmd_is c.args.core.now) c.args.node c.requires.node in
    let so = ap (by_rule th.state c.args.phase c.args.need) c.in-Ask.is in
    let makes = makes_as (c.requires.makes th.state th.at) (ap (or_use (plain_of g.O.Operation.cmd_is c.args.core.now) th.state) so) in
    lacking _ (search rules) c.in_err-claim-in-Ask.ensures.same (ap (takes_none c.args.core.now.locks c.args.node) makes.event) (ap (λ m. m.image) c.in_err-claim-in-Ask.ensures.mirror) (still_room c.in_err-claim-in-Ask.ensures.same c.in_err-claim-in-Ask.ensures.room c.requires.room)

pub returns-in-Granted : goal.returns-in-Granted
returns-in-Granted g c =
    let th = there_now (plain_of g.O.Operation.cmd_is c.args.core.now) c.args.node c.requires.node in
    let so = ap (by_rule th.state c.args.phase c.args.need) c.in-Ask.is in
    let makes = makes_as (c.requires.makes th.state th.at) (ap (or_use (plain_of g.O.Operation.cmd_is c.args.core.now) th.state) so) in
    let world = c.in_ok-claim-in-Ask.ensures.world in
    let its = (c.requires.can th.state th.at).claim c.args.phase c.in-Ask.name c.in-Ask.mode so in
    quiet _ makes world (claim_told (plain_of g.O.Operation.cmd_is c.args.core.now) c.args.node th.state th.at c.args.phase c.in-Ask.name c.in-Ask.mode its true (goes_granted _ c.in_ok-claim-in-Ask.field-0 c.in_ok-claim-in-Ask.ensures.answer c.in-Granted.is) (plain_of g.O.Operation.cmd_is c.claim.new.core) world)
    (ap (λ m. m.image) c.in_ok-claim-in-Ask.ensures.mirror) (ap (λ m. m.blocks) c.in_ok-claim-in-Ask.ensures.mirror)
    (subst (λ k. HasRoom (plain_of g.O.Operation.cmd_is c.claim.new.core) k) (sym c.in_ok-claim-in-Ask.ensures.room) (kept_room (plain_of g.O.Operation.cmd_is c.args.core.now) c.args.node th.state th.at (event.Claim c.args.phase c.in-Ask.name c.in-Ask.mode) (turned (claiming th.state c.args.phase c.in-Ask.name c.in-Ask.mode)) c.args.core.now.history.room refl refl refl refl c.requires.room (plain_of g.O.Operation.cmd_is c.claim.new.core) world))

pub returns-in-Queued : goal.returns-in-Queued
returns-in-Queued g c =
    let th = there_now (plain_of g.O.Operation.cmd_is c.args.core.now) c.args.node c.requires.node in
    let so = ap (by_rule th.state c.args.phase c.args.need) c.in-Ask.is in
    let makes = makes_as (c.requires.makes th.state th.at) (ap (or_use (plain_of g.O.Operation.cmd_is c.args.core.now) th.state) so) in
    let world = c.in_ok-claim-in-Ask.ensures.world in
    let its = (c.requires.can th.state th.at).claim c.args.phase c.in-Ask.name c.in-Ask.mode so in
    quiet _ makes world (claim_told (plain_of g.O.Operation.cmd_is c.args.core.now) c.args.node th.state th.at c.args.phase c.in-Ask.name c.in-Ask.mode its false (goes_queued _ c.in_ok-claim-in-Ask.field-0 c.in_ok-claim-in-Ask.ensures.answer c.in-Queued.is) (plain_of g.O.Operation.cmd_is c.claim.new.core) world)
    (ap (λ m. m.image) c.in_ok-claim-in-Ask.ensures.mirror) (ap (λ m. m.blocks) c.in_ok-claim-in-Ask.ensures.mirror)
    (subst (λ k. HasRoom (plain_of g.O.Operation.cmd_is c.claim.new.core) k) (sym c.in_ok-claim-in-Ask.ensures.room) (kept_room (plain_of g.O.Operation.cmd_is c.args.core.now) c.args.node th.state th.at (event.Claim c.args.phase c.in-Ask.name c.in-Ask.mode) (turned (claiming th.state c.args.phase c.in-Ask.name c.in-Ask.mode)) c.args.core.now.history.room refl refl refl refl c.requires.room (plain_of g.O.Operation.cmd_is c.claim.new.core) world))

pub by_space_look-requires-clause-makes : goal.by_space_look-requires-clause-makes
by_space_look-requires-clause-makes g c s at =
    makes_as (c.requires.makes s at) (ap (λ e. or_use (plain_of g.O.Operation.cmd_is c.args.core.now) s (by_rule s c.args.phase c.args.need e)) c.in-Look.is)

pub by_space_look-requires-clause-can : goal.by_space_look-requires-clause-can
by_space_look-requires-clause-can g c s at =
    subst (CanMove (plain_of g.O.Operation.cmd_is c.args.core.now) c.args.node s) (ap (by_rule s c.args.phase c.args.need) c.in-Look.is) (c.requires.can s at)

pub space_write-requires-clause-volume : goal.space_write-requires-clause-volume
space_write-requires-clause-volume g c =
    let th = there_now (plain_of g.O.Operation.cmd_is c.args.core.now) c.args.node c.requires.node in
    (c.requires.can th.state th.at).volume

pub space_write-requires-clause-within : goal.space_write-requires-clause-within
space_write-requires-clause-within g c =
    let th = there_now (plain_of g.O.Operation.cmd_is c.args.core.now) c.args.node c.requires.node in
    let put = c.requires.puts th.state c.in-Put.lbn c.in-Put.block th.at c.in-Put.is in
    let so = ap (by_rule th.state c.args.phase c.args.need) c.in-Put.is ∙ ap by_put put.next in
    subst (λ l. l < length c.args.core.now.mirror.blocks) put.to ((c.requires.can th.state th.at).write put.write so).within

pub space_write-requires-clause-next : goal.space_write-requires-clause-next
space_write-requires-clause-next g c =
    let th = there_now (plain_of g.O.Operation.cmd_is c.args.core.now) c.args.node c.requires.node in
    let put = c.requires.puts th.state c.in-Put.lbn c.in-Put.block th.at c.in-Put.is in
    let so = ap (by_rule th.state c.args.phase c.args.need) c.in-Put.is ∙ ap by_put put.next in
    ap (λ o. is_some (write_of o)) th.at ∙ ap is_some put.next

pub space_write-requires-clause-can : goal.space_write-requires-clause-can
space_write-requires-clause-can g c s v at next =
    let put = c.requires.puts s c.in-Put.lbn c.in-Put.block at c.in-Put.is in
    let so = ap (by_rule s c.args.phase c.args.need) c.in-Put.is ∙ ap by_put next in
    ((c.requires.can s at).write v so).can

pub returns-in_err-space_write-in-Put : goal.returns-in_err-space_write-in-Put
returns-in_err-space_write-in-Put g c =
    let th = there_now (plain_of g.O.Operation.cmd_is c.args.core.now) c.args.node c.requires.node in
    let put = c.requires.puts th.state c.in-Put.lbn c.in-Put.block th.at c.in-Put.is in
    let so = ap (by_rule th.state c.args.phase c.args.need) c.in-Put.is ∙ ap by_put put.next in
    let makes = makes_as (c.requires.makes th.state th.at) (ap (or_use (plain_of g.O.Operation.cmd_is c.args.core.now) th.state) so) in
    let leaves = sym (ap (λ w. w.blocks) (happen_here (plain_of g.O.Operation.cmd_is c.args.core.now) c.args.node th.state (event.SpaceWrite put.write) th.at)) ∙ (λ i. slice_set c.args.core.now.mirror.blocks (put.to i) (put.block i)) in
    failed _ c.in-Put.lbn c.in-Put.block (search rules) makes c.in_err-space_write-in-Put.ensures.same refl leaves c.in_err-space_write-in-Put.ensures.cause.later c.in_err-space_write-in-Put.ensures.cause.failed c.in_err-space_write-in-Put.ensures.failed (still_room c.in_err-space_write-in-Put.ensures.same c.in_err-space_write-in-Put.ensures.room c.requires.room)

pub returns-in_ok-space_write-in-Put : goal.returns-in_ok-space_write-in-Put
returns-in_ok-space_write-in-Put g c =
    let th = there_now (plain_of g.O.Operation.cmd_is c.args.core.now) c.args.node c.requires.node in
    let put = c.requires.puts th.state c.in-Put.lbn c.in-Put.block th.at c.in-Put.is in
    let so = ap (by_rule th.state c.args.phase c.args.need) c.in-Put.is ∙ ap by_put put.next in
    let makes = makes_as (c.requires.makes th.state th.at) (ap (or_use (plain_of g.O.Operation.cmd_is c.args.core.now) th.state) so) in
    let world = c.in_ok-space_write-in-Put.ensures.world put.write (ap write_of th.at ∙ put.next) put.to put.block in
    wrote _ c.in-Put.lbn c.in-Put.block makes world refl c.in_ok-space_write-in-Put.ensures.cause.later c.in_ok-space_write-in-Put.ensures.image c.in_ok-space_write-in-Put.ensures.blocks
    (subst (λ k. HasRoom (plain_of g.O.Operation.cmd_is c.space_write.new.core) k) (sym c.in_ok-space_write-in-Put.ensures.room) (kept_room (plain_of g.O.Operation.cmd_is c.args.core.now) c.args.node th.state th.at (event.SpaceWrite put.write) (turned (caching (cache_written (plain_of g.O.Operation.cmd_is c.args.core.now) th.state put.write) (space_writing th.state put.write))) c.args.core.now.history.room refl refl refl refl c.requires.room (plain_of g.O.Operation.cmd_is c.space_write.new.core) world))

pub lower_v-requires-clause-lock : goal.lower_v-requires-clause-lock
lower_v-requires-clause-lock g c =
    let th = there_now (plain_of g.O.Operation.cmd_is c.args.core.now) c.args.node c.requires.node in
    let so = ap (by_rule th.state c.args.phase c.args.need) c.in-LowerV.is in
    (c.requires.can th.state th.at).bitmaps (inl so)

pub lower_v-requires-clause-few : goal.lower_v-requires-clause-few
lower_v-requires-clause-few g c s at =
    let few = (c.requires.can s at).kept in omega arith

pub returns-in-LowerV : goal.returns-in-LowerV
returns-in-LowerV g c =
    let th = there_now (plain_of g.O.Operation.cmd_is c.args.core.now) c.args.node c.requires.node in
    let so = ap (by_rule th.state c.args.phase c.args.need) c.in-LowerV.is in
    let makes = makes_as (c.requires.makes th.state th.at) (ap (or_use (plain_of g.O.Operation.cmd_is c.args.core.now) th.state) so) in
    let world = c.lower_v.ensures.world in
    quiet _ makes world refl (ap (λ m. m.image) c.lower_v.ensures.mirror) (ap (λ m. m.blocks) c.lower_v.ensures.mirror)
    (subst (λ k. HasRoom (plain_of g.O.Operation.cmd_is c.lower_v.new.core) k) (sym c.lower_v.ensures.room) (kept_room (plain_of g.O.Operation.cmd_is c.args.core.now) c.args.node th.state th.at event.LowerV (turned (lowering th.state)) c.args.core.now.history.room refl refl refl refl c.requires.room (plain_of g.O.Operation.cmd_is c.lower_v.new.core) world))

pub lower_x-requires-clause-lock : goal.lower_x-requires-clause-lock
lower_x-requires-clause-lock g c =
    let th = there_now (plain_of g.O.Operation.cmd_is c.args.core.now) c.args.node c.requires.node in
    let so = ap (by_rule th.state c.args.phase c.args.need) c.in-LowerX.is in
    (c.requires.can th.state th.at).bitmaps (inr (inl so))

pub lower_x-requires-clause-stocks : goal.lower_x-requires-clause-stocks
lower_x-requires-clause-stocks g c =
    let th = there_now (plain_of g.O.Operation.cmd_is c.args.core.now) c.args.node c.requires.node in
    let so = ap (by_rule th.state c.args.phase c.args.need) c.in-LowerX.is in
    (c.requires.can th.state th.at).stocks (inl so)

pub lower_x-requires-clause-few : goal.lower_x-requires-clause-few
lower_x-requires-clause-few g c s at =
    let few = (c.requires.can s at).kept in omega arith

pub returns-in-LowerX : goal.returns-in-LowerX
returns-in-LowerX g c =
    let th = there_now (plain_of g.O.Operation.cmd_is c.args.core.now) c.args.node c.requires.node in
    let so = ap (by_rule th.state c.args.phase c.args.need) c.in-LowerX.is in
    let makes = makes_as (c.requires.makes th.state th.at) (ap (or_use (plain_of g.O.Operation.cmd_is c.args.core.now) th.state) so) in
    let world = c.lower_x.ensures.world in
    quiet _ makes world refl (ap (λ m. m.image) c.lower_x.ensures.mirror) (ap (λ m. m.blocks) c.lower_x.ensures.mirror)
    (subst (λ k. HasRoom (plain_of g.O.Operation.cmd_is c.lower_x.new.core) k) (sym c.lower_x.ensures.room) (kept_room (plain_of g.O.Operation.cmd_is c.args.core.now) c.args.node th.state th.at event.LowerX (turned (lowering_both th.state)) c.args.core.now.history.room refl refl refl refl c.requires.room (plain_of g.O.Operation.cmd_is c.lower_x.new.core) world))

pub return_x-requires-clause-lock : goal.return_x-requires-clause-lock
return_x-requires-clause-lock g c =
    let th = there_now (plain_of g.O.Operation.cmd_is c.args.core.now) c.args.node c.requires.node in
    let so = ap (by_rule th.state c.args.phase c.args.need) c.in-Return.is in
    (c.requires.can th.state th.at).bitmaps (inr (inr so))

pub return_x-requires-clause-stocks : goal.return_x-requires-clause-stocks
return_x-requires-clause-stocks g c =
    let th = there_now (plain_of g.O.Operation.cmd_is c.args.core.now) c.args.node c.requires.node in
    let so = ap (by_rule th.state c.args.phase c.args.need) c.in-Return.is in
    (c.requires.can th.state th.at).stocks (inr so)

pub return_x-requires-clause-few : goal.return_x-requires-clause-few
return_x-requires-clause-few g c s at =
    let few = (c.requires.can s at).kept in omega arith

pub returns-in-Return : goal.returns-in-Return
returns-in-Return g c =
    let th = there_now (plain_of g.O.Operation.cmd_is c.args.core.now) c.args.node c.requires.node in
    let so = ap (by_rule th.state c.args.phase c.args.need) c.in-Return.is in
    let makes = makes_as (c.requires.makes th.state th.at) (ap (or_use (plain_of g.O.Operation.cmd_is c.args.core.now) th.state) so) in
    let world = c.return_x.ensures.world in
    quiet _ makes world refl (ap (λ m. m.image) c.return_x.ensures.mirror) (ap (λ m. m.blocks) c.return_x.ensures.mirror)
    (subst (λ k. HasRoom (plain_of g.O.Operation.cmd_is c.return_x.new.core) k) (sym c.return_x.ensures.room) (kept_room (plain_of g.O.Operation.cmd_is c.args.core.now) c.args.node th.state th.at event.Return (turned (returning th.state)) c.args.core.now.history.room refl refl refl refl c.requires.room (plain_of g.O.Operation.cmd_is c.return_x.new.core) world))

pub returns-in-Enough : goal.returns-in-Enough
returns-in-Enough g c =
    let th = there_now (plain_of g.O.Operation.cmd_is c.args.core.now) c.args.node c.requires.node in
    let so = ap (by_rule th.state c.args.phase c.args.need) c.in-Enough.is in
    let makes = makes_as (c.requires.makes th.state th.at) (ap (or_use (plain_of g.O.Operation.cmd_is c.args.core.now) th.state) so) in
    let quiet_so = ends_so (plain_of g.O.Operation.cmd_is c.args.core.now) c.args.node th.state th.at in
    let world = c.stand.ensures.world ∙ quiet_so in
    quiet _ makes world refl (ap (λ m. m.image) c.stand.ensures.mirror) (ap (λ m. m.blocks) c.stand.ensures.mirror)
    (subst (λ k. HasRoom (plain_of g.O.Operation.cmd_is c.stand.new.core) k) (sym c.stand.ensures.room) (kept_room (plain_of g.O.Operation.cmd_is c.args.core.now) c.args.node th.state th.at event.SpaceEnd (turned th.state) c.args.core.now.history.room refl refl refl refl c.requires.room (plain_of g.O.Operation.cmd_is c.stand.new.core) world))

pub returns-in-Short : goal.returns-in-Short
returns-in-Short g c =
    let th = there_now (plain_of g.O.Operation.cmd_is c.args.core.now) c.args.node c.requires.node in
    let so = ap (by_rule th.state c.args.phase c.args.need) c.in-Short.is in
    let makes = makes_as (c.requires.makes th.state th.at) (ap (or_use (plain_of g.O.Operation.cmd_is c.args.core.now) th.state) so) in
    let quiet_so = ends_so (plain_of g.O.Operation.cmd_is c.args.core.now) c.args.node th.state th.at in
    let world = c.stand-in-Short.ensures.world ∙ quiet_so in
    quiet _ makes world refl (ap (λ m. m.image) c.stand-in-Short.ensures.mirror) (ap (λ m. m.blocks) c.stand-in-Short.ensures.mirror)
    (subst (λ k. HasRoom (plain_of g.O.Operation.cmd_is c.stand-in-Short.new.core) k) (sym c.stand-in-Short.ensures.room) (kept_room (plain_of g.O.Operation.cmd_is c.args.core.now) c.args.node th.state th.at event.SpaceEnd (turned th.state) c.args.core.now.history.room refl refl refl refl c.requires.room (plain_of g.O.Operation.cmd_is c.stand-in-Short.new.core) world))
