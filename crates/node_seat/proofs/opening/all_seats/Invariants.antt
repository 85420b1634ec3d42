use Rattle.std.proofs.Common.{◌≡◌}
use Rattle.std.specs.Prelude.{All, map}
use Rattle.std.specs.List.{range_with_len}
use Rattle.node_seat.proofs.opening.all_seats.Given as goal

abbrev pub invariant-loop-made : goal.invariant-loop-made
invariant-loop-made g l = record {
  table : l.own.table_id ≡ l.fn.own.table_id;
  id : l.own.id ≡ l.fn.own.id;
  view : l.own.me.0 ≡ record l.fn.own.me.0 { claims = l.made };
  hand : l.own.me.1 ≡ l.fn.own.me.1;
  seats : All (λ s. s.seat.table_id ≡ l.fn.own.table_id) l.seats.items;
  numbers : map (λ s. s.number) l.seats.items ≡ range_with_len 1 l.made;
}
