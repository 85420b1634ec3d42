use Rattle.std.proofs.Common.{◌∙◌, ap, sym, arith}
use Rattle.std.specs.Prelude.{not}
use Rattle.vol_parts.specs.Volumes.{volume}
use Rattle.vol_faults.proofs.TailLemmas.{stray-by, flag-is}
use Rattle.vol_faults.proofs.tails.is_stray.Goals as goal

pub bounds-items-n : goal.bounds-items-n
bounds-items-n c = (flag-is (volume c.args.home.now c.args.blocks.now) c.args.n c.items.result.now c.requires.number (c.items.ensures ∙ c.requires.flags)).0

pub returns-then-f-gt0 : goal.returns-then-f-gt0
returns-then-f-gt0 c =
    let v = volume c.args.home.now c.args.blocks.now in
    ap not (flag-is v c.args.n c.items.result.now c.requires.number (c.items.ensures ∙ c.requires.flags)).1
    ∙ stray-by v c.args.n c.in-Some.f (sym c.used_slot.ensures ∙ c.in-Some.is) (omega arith)
