use Rattle.std.proofs.Common.{◌≡◌, ◌∙◌, List, map, sym, ap, subst}
use Rattle.std.specs.Prelude.{Option, filter, IfOk}
use Rattle.plain_rules.specs.Mending.{places}
use Rattle.vol_parts.specs.declared.finding.Finding.{Finding}
use Rattle.vol_faults.specs.CatFindings.{IsFirstIn}
use Rattle.vol_repair.specs.declared.removing.Leaver.{Leaver}
use Rattle.vol_repair.specs.Removing.{place_from, is_on_loop}
use Rattle.vol_repair.proofs.Leavers.{none_on_loop}
use Rattle.vol_repair.proofs.loops.leavers.Goals as goal
use Rattle.vol_repair.proofs.loops.leavers.Goals.{in-Some, in-None}

pub returns : goal.returns
returns c = elim c.match-branch-2.branch [
  | in-Some w ↦ subst (λ r. IfOk r (λ v. map place_from v.items ≡ filter (is_on_loop c.args.cat.now) (places c.args.cat.now))) (sym w.result-is) w.entries_on_loops.ensures
  | in-None w ↦ (let none = subst (λ (o : Option Finding). IsFirstIn c.args.cat.now 15 o) w.in-None.is c.in_ok-first_loop.ensures in
      subst (λ r. IfOk r (λ v. map place_from v.items ≡ filter (is_on_loop c.args.cat.now) (places c.args.cat.now))) (sym w.result-is)
      (ap (λ (ls : List Leaver). map place_from ls) w.new.ensures.items ∙ none_on_loop c.args.cat.now none (places c.args.cat.now)))
]
