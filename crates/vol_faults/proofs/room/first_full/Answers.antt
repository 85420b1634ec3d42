use Rattle.std.proofs.Common.{◌≤◌, ◌∙◌, List, ℕ, length, take_all, sym, subst, arith}
use Rattle.vol_faults.specs.Waiting.{AreEntered}
use Rattle.vol_faults.proofs.Entering.{no_file_at, no_room_at, room_at, all_have_room}
use Rattle.vol_faults.proofs.room.first_full.Goals as goal

pub returns-in_default : goal.returns-in_default
returns-in_default c =
    no_file_at c.args.cat.now c.args.waiting.now c.loop-n.entries c.loop-n.n-index c.loop-n.invariant c.requires.waiting c.loop-n-test.true
    (sym c.in_default.ensures)

pub returns-in-None : goal.returns-in-None
returns-in-None c =
    no_room_at c.args.cat.now c.args.waiting.now c.loop-n.entries c.loop-n.n-index c.in-Some.file.now c.loop-n.invariant c.requires.waiting
    c.loop-n-test.true (sym c.in-Some.ensures) (sym c.in_ok-more.ensures ∙ c.in-None.is)

pub loop-n-preserved : goal.loop-n-preserved
loop-n-preserved c =
    room_at c.args.cat.now c.args.waiting.now c.loop-n.entries c.in-Some-2.more c.loop-n.n-index c.in-Some.file.now c.loop-n.invariant
    c.loop-n-test.true (sym c.in-Some.ensures) (sym c.in_ok-more.ensures ∙ c.in-Some-2.is)

pub returns : goal.returns
returns c =
    let end : length c.args.waiting.now ≤ c.loop-n.n-index = omega arith in
    all_have_room c.args.cat.now c.args.waiting.now c.loop-n.entries
    (subst (λ (ns : List ℕ). AreEntered c.args.cat.now ns c.loop-n.entries) (take_all c.loop-n.n-index c.args.waiting.now end) c.loop-n.invariant)
    c.requires.waiting
