use Rattle.std.proofs.Common.{rules}
use Rattle.std.proofs.Common.{◌≡◌, subst}
use Rattle.plain_cat.specs.declared.command.Cmd.TheVariants as cmd
use Rattle.op_law.specs.Fits.{FitsSeen}
use Rattle.op_lookup.proofs.Looking.{fits_inside, fits_readable, list_readable}
use Rattle.op_lookup.proofs.operation.OpLookupOperation.next.Goals as goal

pub lookup_next-requires-clause-inside : goal.lookup_next-requires-clause-inside
lookup_next-requires-clause-inside c = fits_inside c.args.self.now c.args.seen.now (search rules) c.requires

pub list_next-requires-clause-inside : goal.list_next-requires-clause-inside
list_next-requires-clause-inside c = fits_inside c.args.self.now c.args.seen.now (search rules) c.requires

pub lookup_next-requires-clause-readable : goal.lookup_next-requires-clause-readable
lookup_next-requires-clause-readable c =
    let x = c.in-Lookup in
    let seen = c.args.seen.now in
    let is : c.args.self.now ≡ cmd.Lookup x.reg x.dir x.name x.ver = cc in
    fits_readable x.reg x.dir x.name x.ver seen (subst (λ k. FitsSeen k seen) is c.requires)

pub list_next-requires-clause-readable : goal.list_next-requires-clause-readable
list_next-requires-clause-readable c =
    let x = c.in-List in
    let seen = c.args.seen.now in
    let is : c.args.self.now ≡ cmd.List x.dir = cc in
    list_readable x.dir seen (subst (λ k. FitsSeen k seen) is c.requires)
