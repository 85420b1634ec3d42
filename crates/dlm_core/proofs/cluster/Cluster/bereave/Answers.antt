use Rattle.dlm_core.proofs.Bodies.{death-steps, death-shape}
use Rattle.dlm_core.proofs.cluster.Cluster.bereave.Goals as goal

pub returns-clause-after : goal.returns-clause-after
returns-clause-after c =
    death-steps c.args.dead c.args.self.now _ c.bury.new.self c.claim.new.self c.lose_mail.new.self c.rehome.new.self _ c.in_ok-living.living.items c.as_slice.result.now c.as_slice-2.result.now c.in_ok-living.ensures c.as_slice.ensures.value c.self.view_is
    c.in_ok-bury.ensures c.in_ok-claim.ensures c.lose_mail.ensures c.in_ok-rehome.ensures c.as_slice-2.ensures.value c.self-2.view_is

pub returns-clause-shape : goal.returns-clause-shape
returns-clause-shape c =
    death-shape c.args.dead c.args.self.now _ c.requires
    (death-steps c.args.dead c.args.self.now _ c.bury.new.self c.claim.new.self c.lose_mail.new.self c.rehome.new.self _ c.in_ok-living.living.items c.as_slice.result.now c.as_slice-2.result.now c.in_ok-living.ensures c.as_slice.ensures.value c.self.view_is
    c.in_ok-bury.ensures c.in_ok-claim.ensures c.lose_mail.ensures c.in_ok-rehome.ensures c.as_slice-2.ensures.value c.self-2.view_is)
