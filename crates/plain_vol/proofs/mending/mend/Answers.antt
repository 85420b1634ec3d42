use Rattle.std.proofs.Common.{◌≡◌, ◌∙◌, ◌-◌, Some, length, sym, ap, subst, arith}
use Rattle.std.specs.List.{count_by}
use Rattle.plain_cat.specs.declared.history.Mended.{Mended}
use Rattle.plain_rules.specs.Accounts.{Accounted}
use Rattle.plain_rules.specs.Mending.{places, is_used, counts}
use Rattle.plain_rules.proofs.MendSteps.{cleared_keeps, lost_keeps, right_keeps, mended_is}
use Rattle.plain_vol.proofs.mending.mend.Goals as goal

pub place_count-requires-2 : goal.place_count-requires-2
place_count-requires-2 c = (subst Accounted (sym c.in_ok-cleared.ensures) (cleared_keeps c.args.cat.now c.requires)).numbers

pub with_lost-requires : goal.with_lost-requires
with_lost-requires c = subst Accounted (sym c.in_ok-cleared.ensures) (cleared_keeps c.args.cat.now c.requires)

pub place_count-requires-3 : goal.place_count-requires-3
place_count-requires-3 c =
    let first : Accounted c.in_ok-cleared.cleared = subst Accounted (sym c.in_ok-cleared.ensures) (cleared_keeps c.args.cat.now c.requires) in
    (lost_keeps c.in_ok-cleared.cleared c.in-Some.entered (sym c.in_ok-entered.ensures ∙ c.in-Some.is) first).numbers

pub put_right-requires : goal.put_right-requires
put_right-requires c =
    let first : Accounted c.in_ok-cleared.cleared = subst Accounted (sym c.in_ok-cleared.ensures) (cleared_keeps c.args.cat.now c.requires) in
    lost_keeps c.in_ok-cleared.cleared c.in-Some.entered (sym c.in_ok-entered.ensures ∙ c.in-Some.is) first

pub returns-clause-accounts : goal.returns-clause-accounts
returns-clause-accounts c =
    let first : Accounted c.in_ok-cleared.cleared = subst Accounted (sym c.in_ok-cleared.ensures) (cleared_keeps c.args.cat.now c.requires) in
    let second : Accounted c.in-Some.entered = lost_keeps c.in_ok-cleared.cleared c.in-Some.entered (sym c.in_ok-entered.ensures ∙ c.in-Some.is) first in
    subst Accounted (sym c.in_ok-after.ensures) (right_keeps c.in-Some.entered second)

pub returns-clause-value : goal.returns-clause-value
returns-clause-value c =
    let entered : c.saturating_sub.result ≡ length (places c.in-Some.entered) - length (places c.in_ok-cleared.cleared)
    = omega (arith, c.saturating_sub.ensures, c.in_ok-named.ensures, c.in_ok-kept.ensures) in
    let removed : c.saturating_sub-2.result ≡ length (places c.args.cat.now) - length (places c.in_ok-cleared.cleared)
    = omega (arith, c.saturating_sub-2.ensures, c.in_ok-found.ensures, c.in_ok-kept.ensures) in
    let gone : c.saturating_sub-3.result ≡ count_by is_used c.args.cat.now.files - count_by is_used c.in_ok-after.after.files
    = omega (arith, c.saturating_sub-3.ensures, c.used_count.ensures, c.used_count-2.ensures) in
    let done : Mended = record {
      entered = c.saturating_sub.result;
      removed = c.saturating_sub-2.result;
      gone = c.saturating_sub-3.result;
      clusters = c.args.cat.now.leaked;
      numbers = c.flag_count.result;
    } in
    let same : done ≡ counts c.args.cat.now c.in_ok-cleared.cleared c.in-Some.entered c.in_ok-after.after
    = λ i. record { entered = entered i; removed = removed i; gone = gone i; clusters = c.args.cat.now.leaked; numbers = c.flag_count.ensures i } in
    mended_is c.args.cat.now c.in_ok-cleared.cleared c.in-Some.entered c.in_ok-after.after c.in_ok-cleared.ensures
    (sym c.in_ok-entered.ensures ∙ c.in-Some.is) c.in_ok-after.ensures
    ∙ ap (λ (m : Mended). Some (c.in_ok-after.after, m)) (sym same)
