use Rattle.std.proofs.Common.{rules, ◌≡◌, subst}
use Rattle.plain_cat.specs.declared.command.Cmd.TheVariants as cmd
use Rattle.op_law.specs.Fits.{FitsSeen}
use Rattle.op_rename.proofs.OfVolume.{fits_inside, fits_readable}
use Rattle.op_rename.proofs.operation.OpRenameOperation.next.Goals as goal

pub rename_next-requires-clause-inside : goal.rename_next-requires-clause-inside
rename_next-requires-clause-inside c = fits_inside c.args.self.now c.args.seen.now (search rules) c.requires

pub rename_next-requires-clause-readable : goal.rename_next-requires-clause-readable
rename_next-requires-clause-readable c =
    let x = c.in-Rename in
    let seen = c.args.seen.now in
    let is : c.args.self.now ≡ cmd.Rename x.dir x.name x.ver x.to x.to_ver = cc in
    fits_readable x.dir x.name x.ver x.to x.to_ver seen (subst (λ k. FitsSeen k seen) is c.requires)
