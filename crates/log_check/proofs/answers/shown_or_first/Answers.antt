use Rattle.std.proofs.Common.{◌≡◌, ◌∙◌, true, Some, sym}
use Rattle.std.proofs.lemmas.Bool.{and_parts}
use Rattle.plain_rules.specs.Lookups.{is_free_number, has_free_number}
use Rattle.log_check.specs.Lines.{shown_of}
use Rattle.log_check.proofs.Replies.{shown_pick}
use Rattle.log_check.proofs.answers.shown_or_first.Goals as goal

pub returns-in-Some-clause-shown : goal.returns-in-Some-clause-shown
returns-in-Some-clause-shown c = λ r n rest e shows pick.
    sym c.in-Some.is ∙ c.shown_number.ensures ∙ shown_pick c.args.cat.now c.args.reply.now r n rest c.requires e shows pick

pub returns-in_default-clause-shown : goal.returns-in_default-clause-shown
returns-in_default-clause-shown c = λ r n rest e shows pick.
    let back : shown_of c.args.reply.now ≡ Some n = shown_pick c.args.cat.now c.args.reply.now r n rest c.requires e shows pick in
    let same : c.in-Some.n ≡ n = cc (back, c.in-Some.is, c.shown_number.ensures) in
    let free : is_free_number c.args.cat.now n ≡ true = (and_parts (is_free_number c.args.cat.now n) (has_free_number c.args.cat.now) pick).0 in
    cc (same, free, c.is_free_number.ensures, c.if-is_free_number.false)

pub returns-in_default-2-clause-shown : goal.returns-in_default-2-clause-shown
returns-in_default-2-clause-shown c = λ r n rest e shows pick.
    let back : shown_of c.args.reply.now ≡ Some n = shown_pick c.args.cat.now c.args.reply.now r n rest c.requires e shows pick in
    cc (back, c.in_default.is, c.shown_number.ensures)
