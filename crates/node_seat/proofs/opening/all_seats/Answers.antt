use Rattle.std.proofs.Common.{rules, ◌≡◌, ◌∙◌}
use Rattle.node_seat.proofs.Numbers.{all_more, numbers_more}
use Rattle.node_seat.proofs.opening.all_seats.Goals as goal

pub loop-made-preserved : goal.loop-made-preserved
loop-made-preserved g c =
    let xs = c.loop-made.seats.items in
    let ys = c.push.new.self.items in
    let x = c.next_seat.result in
    record {
      table = search rules;
      id = search rules;
      view = search rules;
      hand = search rules;
      seats = all_more xs ys x (λ s. s.seat.table_id ≡ c.args.own.now.table_id) c.in_ok-push.ensures.items c.loop-made.invariant.seats (c.next_seat.ensures.seat.0 ∙ c.loop-made.invariant.table);
      numbers = numbers_more xs ys x (λ s. s.number) c.loop-made.made c.in_ok-push.ensures.items c.loop-made.invariant.numbers c.next_seat.ensures.seat.1;
    }
