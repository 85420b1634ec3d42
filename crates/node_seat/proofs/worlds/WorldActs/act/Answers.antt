use Rattle.node_seat.proofs.Acting.{acted}
use Rattle.node_seat.proofs.worlds.WorldActs.act.Goals as goal

pub returns-clause-kept : goal.returns-clause-kept
returns-clause-kept g c start k =
    acted start c.args.self.now.world c.seat_event.new.w.world (g.I.ImageDev.faults c.args.self.now.image) (g.I.ImageDev.faults c.seat_event.new.w.image) (g.I.ImageDev.told c.args.self.now.image) (g.I.ImageDev.told c.seat_event.new.w.image) c.args.node c.requires k c.seat_event.ensures.later c.seat_event.result
    c.seat_event.ensures.moved c.seat_event.ensures.same c.seat_event.ensures.turn c.seat_event.ensures.cause c.seat_event.ensures.before c.seat_event.ensures.torn c.seat_event.ensures.drive
