use Rattle.std.proofs.Common.{◌≡◌, ◌-◌, ◌<◌, false, ℕ, length, sym, ◌∙◌, arith, eqb}
use Rattle.std.proofs.lemmas.Bool.Decides.{nat_tests}
use Rattle.fx_dir.proofs.Merging.{all-passed}
use Rattle.fx_dir.proofs.reading.passed.Goals as goal

some : (n : ℕ) → eqb n 0 ≡ false → 0 < n
some n h = grind (arith, nat_tests)

pub returns-then-is_before-clause-before : goal.returns-then-is_before-clause-before
returns-then-is_before-clause-before c =
    let es = c.args.es.now in
    let m : 0 < length es = some (length es) (sym c.is_empty.ensures ∙ c.if-is_empty.false) in
    let n : 0 < length c.args.fs.now = some (length c.args.fs.now) (sym c.is_empty-else-is_empty.ensures ∙ c.if-is_empty-2.false) in
    all-passed es c.args.fs.now c.index-es-es.result c.index-fs-0.result (length es - 1) c.requires.met c.requires.found (omega arith) n c.index-es-es.is c.index-fs-0.is (sym c.is_before.ensures ∙ c.if-is_before.true)
