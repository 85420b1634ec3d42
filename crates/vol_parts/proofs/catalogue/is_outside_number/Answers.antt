use Rattle.std.proofs.Common.{◌≡◌, ◌∙◌, ◌-◌, true, false, not, get_or, length, sym, ap, arith}
use Rattle.std.specs.Prelude.{◌&&◌}
use Rattle.std.proofs.lemmas.List.FromFn.{length-map-range_with_len, get_or-map-range_with_len}
use Rattle.vol_parts.specs.Volumes.{volume, is_used_number, is_in_slots}
use Rattle.vol_parts.specs.Catalogues.{is_outside_number}
use Rattle.vol_parts.proofs.catalogue.is_outside_number.Goals as goal

pub bounds-slots-n : goal.bounds-slots-n
bounds-slots-n c =
    let v = volume c.args.home.now c.args.blocks.now in
    let number = c.requires.number in
    let few : length c.args.slots.now ≡ v.home.files = ap length c.requires.slots ∙ length-map-range_with_len (is_in_slots v) 1 v.home.files in
    omega (arith, number.from, number.to)

pub returns-then-is_used_number : goal.returns-then-is_used_number
unfolding is_outside_number
returns-then-is_used_number c =
    let v = volume c.args.home.now c.args.blocks.now in
    let number = c.requires.number in
    let to = number.to in
    let used : is_used_number v c.args.n ≡ true = sym c.is_used_number.ensures ∙ c.if-is_used_number.true in
    let flag : get_or c.args.slots.now (c.args.n - 1) false ≡ is_in_slots v c.args.n =
    ap (λ flags. get_or flags (c.args.n - 1) false) c.requires.slots
    ∙ get_or-map-range_with_len (is_in_slots v) 1 v.home.files (c.args.n - 1) c.args.n false (omega (arith, number.from)) (omega (arith, number.from)) in
    ap not flag ∙ ap (λ t. t && not (is_in_slots v c.args.n)) (sym used)
