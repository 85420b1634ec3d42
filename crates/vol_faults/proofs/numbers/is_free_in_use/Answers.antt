use Rattle.std.proofs.Common.{◌≡◌, ◌∙◌, not, false, sym, ap, arith}
use Rattle.std.specs.Prelude.{◌&&◌, is_some}
use Rattle.vol_parts.specs.Volumes.{volume, used_slot, is_used_number}
use Rattle.vol_faults.specs.Conditions.{is_free_in_use}
use Rattle.vol_faults.proofs.HeaderLemmas.{index-inside}
use Rattle.vol_faults.proofs.numbers.is_free_in_use.Goals as goal

pub is_used_number-requires-clause-there : goal.is_used_number-requires-clause-there
is_used_number-requires-clause-there c =
    let h = index-inside (volume c.args.home.now c.args.blocks.now) (omega arith) c.requires.heads in
    omega (arith, h)

pub returns-then-not-is_used_number : goal.returns-then-not-is_used_number
unfolding is_free_in_use
returns-then-not-is_used_number c =
    let v = volume c.args.home.now c.args.blocks.now in
    let free : is_used_number v c.args.n ≡ false = sym c.is_used_number.ensures ∙ c.if-not-is_used_number.true in
    let there : c.is_some.result ≡ is_some (used_slot v c.args.n) = cc (c.is_some.ensures, c.used_slot.ensures) in
    there ∙ ap (λ t. not t && is_some (used_slot v c.args.n)) (sym free)
