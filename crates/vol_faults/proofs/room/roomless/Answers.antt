use Rattle.std.proofs.Common.{◌∙◌, sym, subst}
use Rattle.vol_faults.specs.Waiting.{IsRoomless}
use Rattle.vol_faults.proofs.Entering.{entered_start, no_room_nowhere}
use Rattle.vol_faults.proofs.room.roomless.Goals as goal

pub returns-in_default : goal.returns-in_default
returns-in_default c =
    subst (IsRoomless c.args.cat.now) (sym (c.copied.ensures ∙ c.first.ensures.value))
    (no_room_nowhere c.args.cat.now c.args.waiting.now c.requires.waiting (sym c.in_default.ensures))

pub first_full-requires-clause-kept : goal.first_full-requires-clause-kept
first_full-requires-clause-kept c =
    entered_start c.args.cat.now c.in-Some.dir.now c.in_ok-kept.kept (sym c.in-Some.ensures) c.in_ok-kept.ensures
