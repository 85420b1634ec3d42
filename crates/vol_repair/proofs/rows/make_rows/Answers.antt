use Rattle.std.proofs.Common.{◌≡◌, ◌∙◌, ◌==◌, true, false, Some, refl, ap, sym, subst}
use Rattle.std.specs.List.{list_any}
use Rattle.std.proofs.lemmas.Result.{on_ok_weaker}
use Rattle.fx_quota.specs.declared.types.Row.{Row}
use Rattle.vol_init.specs.Layouts.{system_owner}
use Rattle.vol_repair.specs.Rows.{IsRowSet}
use Rattle.vol_repair.proofs.Stepping.{first_well, ends_so}
use Rattle.vol_repair.proofs.RowSettling.{after_settled, after_set}
use Rattle.vol_repair.proofs.rows.make_rows.Goals as goal

pub returns-then-is_seen-clause-ok : goal.returns-then-is_seen-clause-ok
returns-then-is_seen-clause-ok g c first before =
    let there : list_any (λ n. n == system_owner) c.in_ok-seen.seen.items ≡ true = ap (list_any (λ n. n == system_owner)) (sym c.as_slice.ensures.value) ∙ sym c.is_seen.ensures ∙ c.if-is_seen.true in
    after_settled c.args.home.now first c.args.m.now.blocks c.settle_rows.new.m.blocks c.in_ok-seen.seen.items c.requires.limits before (c.in_ok-seen.ensures.ok first before.ground) there

pub returns-clause-step : goal.returns-clause-step
returns-clause-step g c first before =
    ends_so _ _ _ _ _ _ _ _ _ _ (first_well _ _ _ _ _ _ _ _ refl (c.in_ok-seen.ensures.step first before.ground)) (c.write_row.ensures.step first (c.in_ok-seen.ensures.ok first before.ground).ground)

pub returns-clause-ok : goal.returns-clause-ok
returns-clause-ok g c first before =
    let s = c.in_ok-seen.ensures.ok first before.ground in
    let none : list_any (λ n. n == system_owner) c.in_ok-seen.seen.items ≡ false = ap (list_any (λ n. n == system_owner)) (sym c.as_slice.ensures.value) ∙ sym c.is_seen.ensures ∙ c.if-is_seen.false in
    on_ok_weaker c.write_row.result
    (λ set. after_set c.args.home.now first c.args.m.now.blocks c.settle_rows.new.m.blocks c.in_ok-seen.seen.items c.requires.limits before s c.write_row.new.m.blocks c.system_place-j.result none c.system_place-j.ensures
    (subst (λ (r : Row). IsRowSet c.args.home.now first c.settle_rows.new.m.blocks c.write_row.new.m.blocks c.system_place-j.result (Some r)) c.system_row.ensures set))
    (c.write_row.ensures.ok first s.ground)
