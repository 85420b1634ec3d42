use Rattle.std.proofs.Common.{refl, inl, inr, arith}
use Rattle.vol_parts.specs.Volumes.{volume}
use Rattle.vol_sound.proofs.SizeLemmas.{size-four, size-eleven, size-none}
use Rattle.vol_sound.proofs.beyond.first_bad_size.Goals as goal

pub is_bad_size-requires-clause-number : goal.is_bad_size-requires-clause-number
is_bad_size-requires-clause-number c = inl refl

pub is_bad_size-requires-2-clause-number : goal.is_bad_size-requires-2-clause-number
is_bad_size-requires-2-clause-number c = inr refl

pub returns-then-is_bad_size : goal.returns-then-is_bad_size
returns-then-is_bad_size c =
    let v = volume c.args.home.now c.args.blocks.now in
    size-four v (omega (arith, c.requires.limits.files_low)) (c.if-is_bad_size.ensures.bad refl)

pub returns-then-is_bad_size-2 : goal.returns-then-is_bad_size-2
returns-then-is_bad_size-2 c =
    let v = volume c.args.home.now c.args.blocks.now in
    size-eleven v (omega (arith, c.requires.limits.files_low)) (c.if-is_bad_size.ensures.good refl) (c.if-is_bad_size-2.ensures.bad refl)

pub returns : goal.returns
returns c =
    let v = volume c.args.home.now c.args.blocks.now in
    size-none v (c.if-is_bad_size.ensures.good refl) (c.if-is_bad_size-2.ensures.good refl)
