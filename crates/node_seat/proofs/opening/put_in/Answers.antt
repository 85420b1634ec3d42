use Rattle.std.proofs.Common.{◌≡◌, ℕ, sym, ap, subst, refl, ◌∙◌, false, Some, None, List, arith}
use Rattle.std.specs.Prelude.{Option, is_some}
use Rattle.base_words.specs.Fields.{Block}
use Rattle.blk_drive.specs.Telling.{IsTold}
use Rattle.core_state.specs.Worlds.{Plain}
use Rattle.atomic_table.specs.Table.{Me}
use Rattle.node_seat.specs.declared.parked.Parked.{Parked}
use Rattle.node_seat.specs.declared.views.Start.{Start}
use Rattle.node_seat.specs.declared.views.SeatView.{SeatView}
use Rattle.node_seat.specs.Keeping.{IsKept, start_of, telling}
use Rattle.node_seat.specs.Yards.{Kept}
use Rattle.node_seat.proofs.opening.put_in.Goals as goal
use Rattle.node_seat.proofs.Acting.{none_marked}
use Rattle.node_seat.proofs.Reaching.{reached_start}

told_so : (w : Plain) (told : Option (List Block)) → IsTold told w.blocks → told ≡ telling (is_some told) w.blocks
told_so w None h = refl
told_so w (Some bs) h = ap Some (sym h)

-- a world is kept by what it tells of itself
kept_so : (w : Plain) (faults : ℕ) (told : Option (List Block)) → IsTold told w.blocks → IsKept (start_of w faults told) w faults told None
kept_so w faults told image = record { reached = reached_start w; later = omega arith; cause = λ e. absurd (none_marked e); image = told_so w told image }

pub give_turn-requires-clause-hand : goal.give_turn-requires-clause-hand
give_turn-requires-clause-hand g c =
    let W = Parked g.row.W.Denot in
    let kept = Kept g.W.Acts.world g.W.Acts.faults g.W.Acts.told in
    let p : W = record { world = c.args.world; stopped = None } in
    let start : Start = start_of (g.W.Acts.world c.args.world) (g.W.Acts.faults c.args.world) (g.W.Acts.told c.args.world) in
    let view : c.exchange_world.new.seat.me.0 ≡ record c.args.own.now.me.0 { unopened = false } = ap (λ (m : Me (Option W) SeatView). m.0) c.exchange_world.ensures.same.2 ∙ c.open_table.ensures.opened.0 in
    let is : c.exchange_world.new.seat.me.0.start ≡ start = ap (λ (v : SeatView). v.start) view ∙ c.requires.start in
    let P : Start → Type 0 = λ s. kept s (Some p) in (
      Some p,
      ap (λ (m : Me (Option W) SeatView). m.1) c.exchange_world.ensures.same.2,
      subst P (sym is) (kept_so (g.W.Acts.world c.args.world) (g.W.Acts.faults c.args.world) (g.W.Acts.told c.args.world) c.requires.told),
    )
