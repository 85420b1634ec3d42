use Rattle.std.proofs.Common.{◌≡◌, ◌∙◌, Option, Some, None, map, sym, ap, subst}
use Rattle.std.proofs.lemmas.Bool.{both_ways}
use Rattle.plain_cat.specs.declared.cat.Cat.{Cat}
use Rattle.plain_cat.specs.declared.cat.Open.{Open}
use Rattle.plain_cat.specs.declared.history.Mended.{Mended}
use Rattle.plain_rules.specs.Accounts.{Accounted}
use Rattle.plain_rules.specs.Mending.{without_opens}
use Rattle.plain_rules.proofs.Kept.{opens_keep}
use Rattle.plain_rules.proofs.MendSteps.{right_keeps}
use Rattle.plain_tidy.specs.Tidy.{tidied, tidy_counts}
use Rattle.plain_tidy.proofs.Finishing.{right_is, tidy_mended}
use Rattle.log_check.proofs.steps.mended_as.Goals as goal

pub returns-then-not-does-clause-none : goal.returns-then-not-does-clause-none
returns-then-not-does-clause-none c none d is =
    let known = tidy_mended c.args.cat (c.requires.settled c.if-settled.true).tidy in
    let both : Some (tidied c.args.cat, tidy_counts c.args.cat) ≡ Some (d, c.args.counts) = sym known ∙ is in
    let pair : (tidied c.args.cat, tidy_counts c.args.cat) ≡ (d, c.args.counts) = cc both in
    both_ways c.does.result c.if-not-does.true (c.does.ensures.1 (sym (ap (λ (p : Cat × Mended). p.1) pair)))

pub returns-then-settled-clause-some : goal.returns-then-settled-clause-some
returns-then-settled-clause-some c =
    let t = (c.requires.settled c.if-settled.true).tidy in
    let after : tidied c.args.cat ≡ c.in_ok-after.after = sym c.in_ok-after.ensures in
    let counts : tidy_counts c.args.cat ≡ c.args.counts = sym (c.does.ensures.0 c.if-not-does.false) in (
      tidy_mended c.args.cat t ∙ (ap (λ (d : Cat). Some (d, tidy_counts c.args.cat)) after ∙ ap (λ (m : Mended). Some (c.in_ok-after.after, m)) counts),
      subst Accounted (right_is c.args.cat t ∙ after) (right_keeps (without_opens c.args.cat) (opens_keep c.args.cat (map (λ (o : Option Open). None) c.args.cat.opens) c.requires.cat)),
    )
