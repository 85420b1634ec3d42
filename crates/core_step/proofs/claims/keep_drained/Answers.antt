use Rattle.std.proofs.Common.{length, arith, ◌∙◌, ◌∷◌, [], ap}
use Rattle.std.proofs.lemmas.List.{length-append}
use Rattle.std.specs.Prelude.{not}
use Rattle.lock_db.specs.declared.name.LockName.TheVariants.{X, V}
use Rattle.plain_cat.specs.declared.mode.Mode.TheVariants.{NL}
use Rattle.lock_db.specs.Names.{is_same}
use Rattle.core_step.proofs.Lists.{length_filter}
use Rattle.core_step.proofs.claims.keep_drained.Goals as goal

pub append-requires-2 : goal.append-requires-2
append-requires-2 g c =
    let all = length_filter (λ l. not (is_same l.0 X)) c.append.new.self in
    let one = ap length c.append.ensures ∙ length-append c.args.node.now.kept ((V, NL) ∷ []) in
    let two = ap length c.remove.ensures in
    let less = c.requires.kept in
    omega (arith, all, one, two, less)
