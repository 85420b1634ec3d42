use Rattle.std.proofs.Common.{◌≤◌, ℕ, All, List, sym, subst, drop}
use Rattle.plain_rules.specs.Lookups.{extra}
use Rattle.op_extend.proofs.Rooms.{gone_slots, numbers_few}
use Rattle.op_extend.proofs.cutting.cutting_writes.Goals as goal

pub push_freeing-requires-clause-numbers : goal.push_freeing-requires-clause-numbers
push_freeing-requires-clause-numbers c =
    let g = c.args.g.now in
    let k = extra c.args.k in
    let rest = c.args.f.now.rest.now in
    subst (λ (ns : List ℕ). All (λ n. n ≤ 4096) ns) (sym c.requires.gone.numbers)
    (numbers_few g (drop k rest) c.requires.geometry (gone_slots g k rest c.requires.can.seen.whole.slots))
