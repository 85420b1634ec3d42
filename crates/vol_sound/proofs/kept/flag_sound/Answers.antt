use Rattle.std.proofs.Common.{◌∙◌, sym, ap, arith}
use Rattle.vol_parts.specs.Catalogues.{flagged}
use Rattle.vol_parts.specs.Volumes.{volume}
use Rattle.vol_sound.specs.Sound.{is_sound}
use Rattle.vol_sound.proofs.KeptLemmas.{flag-at, flags-count, slots-sound, slots-none}
use Rattle.vol_sound.proofs.kept.flag_sound.Goals as goal

pub bounds-sound-n : goal.bounds-sound-n
bounds-sound-n c =
    let v = volume c.args.home.now c.args.blocks.now in
    let all = flags-count (is_sound v) c.args.sound.now v.home.files c.requires.sound in
    omega (arith, all, c.requires.number.from, c.requires.number.to)

pub returns-then-sound-n : goal.returns-then-sound-n
returns-then-sound-n c =
    let v = volume c.args.home.now c.args.blocks.now in
    let at = flag-at (is_sound v) c.args.sound.now v.home.files c.args.n c.requires.sound c.requires.number.from c.requires.number.to in
    c.flag_file.ensures ∙ ap (λ ns. flagged ns c.args.flags.now) (sym (slots-sound v c.args.n (sym at ∙ c.if-sound-n.true)))

pub returns-else-sound-n : goal.returns-else-sound-n
returns-else-sound-n c =
    let v = volume c.args.home.now c.args.blocks.now in
    let at = flag-at (is_sound v) c.args.sound.now v.home.files c.args.n c.requires.sound c.requires.number.from c.requires.number.to in
    ap (λ ns. flagged ns c.args.flags.now) (sym (slots-none v c.args.n (sym at ∙ c.if-sound-n.false)))
