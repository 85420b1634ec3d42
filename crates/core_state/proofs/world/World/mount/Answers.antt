use Rattle.std.proofs.Common.{◌≤◌, ℕ, map, ap, sym, subst, arith}
use Rattle.core_state.specs.Worlds.{shown}
use Rattle.base_words.specs.Fields.{AreWholeBlocks}
use Rattle.fx_home.specs.Homes.{home_read}
use Rattle.vol_faults.specs.Free.{IsGeometryBy}
use Rattle.vol_parts.specs.Findings.{home_at}
use Rattle.core_state.specs.Goods.{IsWorld}
use Rattle.vol_analyze.proofs.Accepting.{accepted_accounts}
use Rattle.core_state.proofs.Accepting.{accepted_near, accepted_sized, accepted_system, told_opens}
use Rattle.core_state.proofs.MountedWorlds.{judged, mounts, world_mounted}
use Rattle.core_state.proofs.world.World.mount.Goals as goal

pub returns-clause-world : goal.returns-clause-world
returns-clause-world g c =
    let j = judged c.all.result.now c.args.m.blocks c.in-Ok-Ok.field-0 c.in-Ok-Ok.cat c.all.ensures c.in-Ok-Ok.field-0-is c.in-Ok-Ok.ensures in
    record {
      opening = c.in-Ok-Ok.cat;
      geometry = c.geometry-geometry.result;
      accepted = j.0;
      told = j.1;
      is = λ i. record { script = c.in-Ok.ensures.script i; opening = c.in-Ok-Ok.cat; geometry = c.geometry-geometry.result; blocks = c.args.m.blocks; locks = c.in-Ok.ensures.locks i; nodes = c.in-Ok.ensures.nodes i; history = map shown (c.in-Ok.ensures.history i) };
    }

pub invariant_of-result : goal.invariant_of-result
invariant_of-result g c =
    let j = judged c.all.result.now c.args.m.blocks c.in-Ok-Ok.field-0 c.in-Ok-Ok.cat c.all.ensures c.in-Ok-Ok.field-0-is c.in-Ok-Ok.ensures in
    let by = subst (λ bs. IsGeometryBy bs (home_read (home_at bs)) c.geometry-geometry.result) c.all-3.ensures c.geometry-geometry.ensures.told in
    let from = subst (λ (k : ℕ). 64 ≤ k) c.size-size.ensures.blocks c.size-size.ensures.inside.low in
    let to = subst (λ (k : ℕ). k ≤ 65536) c.size-size.ensures.blocks c.size-size.ensures.inside.high in
    let whole = subst (λ bs. AreWholeBlocks bs) c.all-2.ensures c.blocks_are_whole.ensures in
    let u = mounts c.args.m.blocks c.in-Ok-Ok.cat c.geometry-geometry.result from to whole j.1 by in
    let w = world_mounted c.args.m.blocks c.args.script.now c.in-Ok-Ok.cat c.geometry-geometry.result c.requires.form u (accepted_accounts c.args.m.blocks c.in-Ok-Ok.cat from to whole j.0 j.1) (accepted_near c.args.m.blocks c.in-Ok-Ok.cat from to whole j.0 j.1) (accepted_sized c.args.m.blocks c.in-Ok-Ok.cat from to whole j.1) (accepted_system c.args.m.blocks c.in-Ok-Ok.cat from to whole j.1) (told_opens c.args.m.blocks c.in-Ok-Ok.cat from to whole j.1) g.O.Operation.takes c.in-Ok.made.history.room (c.args.m.blocks, j.0, j.1) c.requires.taken c.in-Ok.ensures.room in
    let lists = c.in-Ok.ensures.lists in
    let nodes = ap (λ s. s.nodes) c.in-Ok.ensures.script in (
      subst (λ v. IsWorld g.O.Operation.takes v c.in-Ok.made.history.room)
          (sym (λ i. record { script = c.in-Ok.ensures.script i; opening = c.in-Ok-Ok.cat; geometry = c.geometry-geometry.result; blocks = c.args.m.blocks; locks = c.in-Ok.ensures.locks i; nodes = c.in-Ok.ensures.nodes i; history = map shown (c.in-Ok.ensures.history i) })) w,
      omega (arith, lists, nodes),
    )
