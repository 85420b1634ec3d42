-- What keeps a catalogue settled: each entry of a report that follows.
use Rattle.std.proofs.Common.{◌≡◌, ◌∙◌, ℕ, Bool, List, Some, refl, sym, ap, subst, arith}
use Rattle.std.specs.Prelude.{All}
use Rattle.std.proofs.lemmas.List.Elements.{All-map}
use Rattle.plain_cat.specs.declared.history.Entry.{Entry}
use Rattle.plain_cat.specs.declared.history.Entry.TheVariants.{Done, Died, Mended}
use Rattle.plain_cat.specs.declared.history.Mended.{Mended as Work}
use Rattle.plain_cat.specs.declared.cat.Cat.{Cat}
use Rattle.plain_cat.specs.declared.cat.QuotaRow.{QuotaRow}
use Rattle.plain_rules.specs.Accounts.{charge, Accounted}
use Rattle.plain_rules.specs.Mending.{summed_row, with_sums, without_opens, without_leaks, mended}
use Rattle.plain_rules.specs.Replaying.{dead}
use Rattle.plain_rules.specs.Checks.{IsLegal}
use Rattle.plain_histories.specs.Usages.{AreNear}
use Rattle.plain_histories.proofs.Stating.{answer_near}
use Rattle.plain_tidy.specs.Tidy.{without_marked, tidied, tidy_counts}
use Rattle.plain_tidy.proofs.Answering.{answer_tidy}
use Rattle.plain_tidy.proofs.Finishing.{dead_tidy, tidy_mended, tidied_tidy}
use Rattle.log_check.specs.Steps.{IsNext}
use Rattle.log_check.specs.Tidying.{IsSettled}

-- usages that are near without a death are exact, where each is at least what the files cost
near_from : (c : Cat) → All (λ (r : QuotaRow). r.usage ≡ charge c r.owner) c.quota → AreNear c 0
near_from c h = λ i d lt. let e = h i d lt in omega (arith, e)

exact_from : (c : Cat) → Accounted c → AreNear c 0 → All (λ (r : QuotaRow). r.usage ≡ charge c r.owner) c.quota
exact_from c a near = λ i d lt. let most = near i d lt in let least = (a.usage i d lt).0 in omega (arith, most, least)

summed_exact : (x : Cat) → All (λ (r : QuotaRow). r.usage ≡ charge (with_sums x) r.owner) (with_sums x).quota
summed_exact x = All-map (λ (r : QuotaRow). r.usage ≡ charge x r.owner) (summed_row x) x.quota (λ i d lt. refl)

dead_exact : (c : Cat) (n k : ℕ) (numbers : List ℕ) → All (λ (r : QuotaRow). r.usage ≡ charge c r.owner) c.quota → All (λ (r : QuotaRow). r.usage ≡ charge (dead c n k numbers) r.owner) (dead c n k numbers).quota
unfolding dead
dead_exact c n k numbers h = h

dead_settled : (c : Cat) (n k : ℕ) (numbers : List ℕ) → IsSettled c → IsSettled (dead c n k numbers)
dead_settled c n k numbers h = record { tidy = dead_tidy c n k numbers h.tidy; usage = dead_exact c n k numbers h.usage }

mended_settled : (c d : Cat) (m : Work) → IsSettled c → mended c ≡ Some (d, m) → IsSettled d
mended_settled c d m h is =
    let both : Some (tidied c, tidy_counts c) ≡ Some (d, m) = sym (tidy_mended c h.tidy) ∙ is in
    let pair : (tidied c, tidy_counts c) ≡ (d, m) = cc both in
    subst (λ (x : Cat). IsSettled x) (ap (λ (p : Cat × Work). p.0) pair)
    (record { tidy = tidied_tidy c h.tidy; usage = summed_exact (without_leaks (without_marked (without_opens c))) })

legal_settled : (c d : Cat) (e : Entry) → IsSettled c → Accounted d → IsLegal c e d → IsSettled d
legal_settled c d (Done node x r) h a legal =
    record { tidy = answer_tidy c d node x r h.tidy legal.1; usage = exact_from d a (answer_near c d node x r 0 (near_from c h.usage) legal.1) }
legal_settled c d (Died node st k ns) h a legal = subst (λ (x : Cat). IsSettled x) (sym legal.3) (dead_settled c node k ns.items h)
legal_settled c d (Mended m) h a legal = mended_settled c d m h legal

pub next_settled : (i : ℕ) (c : Cat) (text : List ℕ) (d : Cat) (used : ℕ) (answered died : Bool) → IsSettled c → IsNext i c text d used answered died → IsSettled d
next_settled i c text d used answered died h n = legal_settled c d n.entry h n.accounted n.follows.legal
