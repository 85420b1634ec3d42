use Rattle.std.proofs.Common.{◌∙◌, length, sym, ap}
use Rattle.fx_dir.specs.Entries.{has}
use Rattle.fx_dir.specs.Moves.{key}
use Rattle.fx_dir.specs.Writing.{IsRanged}
use Rattle.fx_dir.proofs.Building.{pack-each}
use Rattle.fx_dir.proofs.Leaving.{read-packed, read-anyhow, still-has}
use Rattle.fx_dir.proofs.renaming.leave.Goals as goal

pub remove_by-requires-clause-read : goal.remove_by-requires-clause-read
remove_by-requires-clause-read c = read-packed c.args.now.now c.args.es.now c.requires.packed c.requires.fits c.requires.order (record { form = c.requires.forms; ranged = c.requires.ranged }) (sym c.has_new_marks.ensures ∙ c.if-has_new_marks.true)

pub remove_by-requires-clause-ranged : goal.remove_by-requires-clause-ranged
remove_by-requires-clause-ranged c = pack-each IsRanged (length c.args.now.now) c.args.es.now c.requires.ranged

pub read_sound-requires : goal.read_sound-requires
read_sound-requires c = read-anyhow c.args.now.now c.args.es.now c.requires.packed c.requires.fits c.requires.order (record { form = c.requires.forms; ranged = c.requires.ranged })

pub remove_from-requires-clause-there : goal.remove_from-requires-clause-there
remove_from-requires-clause-there c =
    ap (λ t. has t (key c.args.name.now c.args.ver)) c.as_slice.ensures.value
    ∙ still-has c.args.now.now c.args.es.now c.requires.packed c.requires.fits c.requires.order (record { form = c.requires.forms; ranged = c.requires.ranged }) c.in_ok-read.read.items (key c.args.name.now c.args.ver) c.in_ok-read.ensures.entries c.requires.there
