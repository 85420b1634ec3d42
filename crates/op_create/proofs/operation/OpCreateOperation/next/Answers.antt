use Rattle.std.proofs.Common.{rules, ◌≡◌, subst}
use Rattle.plain_cat.specs.declared.command.Cmd.TheVariants as cmd
use Rattle.op_law.specs.Fits.{FitsSeen}
use Rattle.op_steps.proofs.OfVolume.{fits_volume}
use Rattle.op_create.proofs.OfVolume.{fits_inside, fits_readable, fits_readable_dir}
use Rattle.op_create.proofs.operation.OpCreateOperation.next.Goals as goal

pub create_next-requires-clause-inside : goal.create_next-requires-clause-inside
create_next-requires-clause-inside c = fits_inside c.args.self.now c.args.seen.now (search rules) c.requires

pub create_next-requires-clause-readable : goal.create_next-requires-clause-readable
create_next-requires-clause-readable c =
    let x = c.in-Create in
    let seen = c.args.seen.now in
    let is : c.args.self.now ≡ cmd.Create x.reg x.dir x.name x.ver x.blocks x.owner = cc in
    fits_readable x.reg x.dir x.name x.ver x.blocks x.owner seen (subst (λ k. FitsSeen k seen) is c.requires)

pub create_next-requires-clause-within : goal.create_next-requires-clause-within
create_next-requires-clause-within c = fits_volume c.args.self.now c.args.seen.now c.requires

pub mkdir_next-requires-clause-inside : goal.mkdir_next-requires-clause-inside
mkdir_next-requires-clause-inside c = fits_inside c.args.self.now c.args.seen.now (search rules) c.requires

pub mkdir_next-requires-clause-within : goal.mkdir_next-requires-clause-within
mkdir_next-requires-clause-within c = fits_volume c.args.self.now c.args.seen.now c.requires

pub mkdir_next-requires-clause-readable : goal.mkdir_next-requires-clause-readable
mkdir_next-requires-clause-readable c =
    let x = c.in-MkDir in
    let seen = c.args.seen.now in
    let is : c.args.self.now ≡ cmd.MkDir x.reg x.dir x.name x.owner = cc in
    fits_readable_dir x.reg x.dir x.name x.owner seen (subst (λ k. FitsSeen k seen) is c.requires)
