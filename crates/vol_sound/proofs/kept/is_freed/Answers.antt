use Rattle.std.proofs.Common.{◌∙◌, refl, sym, arith}
use Rattle.vol_parts.specs.Volumes.{volume}
use Rattle.vol_sound.specs.Sound.{is_kept}
use Rattle.vol_sound.proofs.KeptLemmas.{flag-at, flags-count, freed-kept, freed-other}
use Rattle.vol_sound.proofs.kept.is_freed.Goals as goal

pub bounds-kept-n : goal.bounds-kept-n
bounds-kept-n c =
    let v = volume c.args.home.now c.args.blocks.now in
    let all = flags-count (is_kept v) c.args.kept.now v.home.files c.requires.kept in
    omega (arith, all, c.requires.number.from, c.requires.number.to)

pub returns-then-kept-n : goal.returns-then-kept-n
returns-then-kept-n c =
    let v = volume c.args.home.now c.args.blocks.now in
    let at = flag-at (is_kept v) c.args.kept.now v.home.files c.args.n c.requires.kept c.requires.number.from c.requires.number.to in
    sym (freed-kept v c.args.n (sym at ∙ c.if-kept-n.true))

pub returns : goal.returns
returns c =
    let v = volume c.args.home.now c.args.blocks.now in
    let at = flag-at (is_kept v) c.args.kept.now v.home.files c.args.n c.requires.kept c.requires.number.from c.requires.number.to in
    let not_free = freed-other v c.args.n (sym at ∙ c.if-kept-n.false) in
    rw (not_free, c.is_free_slot.ensures) refl
