use Rattle.std.proofs.Common.{◌∙◌, sym, ap, subst}
use Rattle.plain_rules.specs.declared.outcome.Outcome.{Outcome}
use Rattle.plain_rules.specs.Accounts.{Accounted}
use Rattle.plain_rules.proofs.Keeps.{accounts_kept}
use Rattle.plain_rules.proofs.Choices.{no_answer}
use Rattle.plain_vol.proofs.judge.check_answer.Goals as goal

pub returns-then-is_same_reply-clause-keeps : goal.returns-then-is_same_reply-clause-keeps
returns-then-is_same_reply-clause-keeps c =
    subst (λ (o : Outcome). Accounted o.after) (sym c.in_ok-answer.ensures)
    (accounts_kept c.args.cat.now c.args.node c.args.cmd.now c.choose-new.result c.requires.cat c.choose-new.ensures.pick)

pub returns-else-is_same_reply-clause-exact : goal.returns-else-is_same_reply-clause-exact
returns-else-is_same_reply-clause-exact c = λ d given.
    no_answer c.args.cat.now c.args.node c.args.cmd.now c.args.reply.now c.choose-new.result c.choose-new.ensures.pick c.choose-new.ensures.shown
    (λ e. let same = c.is_same_reply.ensures.1 (ap (λ (o : Outcome). o.reply) c.in_ok-answer.ensures ∙ e) in cc (same, c.if-is_same_reply.false)) d given.1
