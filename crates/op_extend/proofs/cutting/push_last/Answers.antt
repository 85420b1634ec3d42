use Rattle.std.proofs.Common.{◌≤◌, ℕ, List, sym, subst}
use Rattle.std.specs.Prelude.{IsTrue}
use Rattle.base_words.specs.Fields.{Block}
use Rattle.fx_header.specs.Headers.{has_offsets}
use Rattle.plain_rules.specs.Lookups.{extra}
use Rattle.op_extend.specs.Seeing.{AreSlots}
use Rattle.op_extend.proofs.Rooms.{head_offsets, kept_slots, last_offsets, last_number}
use Rattle.op_extend.proofs.cutting.push_last.Goals as goal

pub cut_last-requires-clause-offsets : goal.cut_last-requires-clause-offsets
cut_last-requires-clause-offsets c =
    let g = c.args.g.now in
    let f = c.args.f.now in
    let are : AreSlots g c.kept_headers-kept.result.now = subst (λ (seen : List (ℕ × Block)). AreSlots g seen) (sym c.kept_headers-kept.ensures)
    (kept_slots g (extra c.args.k) f.rest.now c.requires.can.seen.whole.slots) in
    subst (λ (b : Block). IsTrue (has_offsets b)) (sym c.last_header-last.ensures.block)
    (last_offsets g f.num f.head.now c.kept_headers-kept.result.now (head_offsets f c.requires.can.seen.readable) are)

pub push_cut-requires-clause-number : goal.push_cut-requires-clause-number
push_cut-requires-clause-number c =
    let g = c.args.g.now in
    let f = c.args.f.now in
    let are : AreSlots g c.kept_headers-kept.result.now = subst (λ (seen : List (ℕ × Block)). AreSlots g seen) (sym c.kept_headers-kept.ensures)
    (kept_slots g (extra c.args.k) f.rest.now c.requires.can.seen.whole.slots) in
    subst (λ n. n ≤ g.files) (sym c.last_header-last.ensures.num) (last_number g f.num f.head.now c.kept_headers-kept.result.now c.requires.can.seen.number are)
