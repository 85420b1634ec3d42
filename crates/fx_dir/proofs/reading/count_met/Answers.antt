use Rattle.std.proofs.Common.{◌≡◌, ◌≤◌, ◌⊎◌, ◌++◌, Bool, true, false, Ok, Err, IsOk, inl, inr, length, drop, sym, ap, subst, ◌∙◌, arith, if◌then◌else◌}
use Rattle.fx_dir.specs.Moves.{on_entries}
use Rattle.fx_dir.specs.declared.DirFault.TheVariants.{Clash}
use Rattle.fx_dir.proofs.Merging.{walk-says, walk-begins, walk-strays, walk-ends, same-sym}
use Rattle.fx_dir.proofs.reading.count_met.Goals as goal
use Rattle.fx_dir.proofs.reading.count_met.Goals.{then-loop-i-test+else-count-fs, else-loop-i-test}

pub loop-i-init : goal.loop-i-init
loop-i-init c = record {
  met = c.passed-i.ensures.bound;
  found = omega arith;
  so_far = walk-begins c.args.es.now c.args.fs.now c.passed-i.result c.passed-i.ensures.before;
}

pub returns-then-not-is_eq-clause-value : goal.returns-then-not-is_eq-clause-value
returns-then-not-is_eq-clause-value c =
    let es = c.args.es.now in
    let fs = c.args.fs.now in
    let before = sym c.order-order.ensures.before ∙ sym c.is_lt.ensures ∙ c.if-not-is_lt.true in
    let same = sym c.order-order.ensures.same ∙ sym c.is_eq.ensures ∙ c.if-not-is_eq.true in
    let strays = walk-strays c.loop-i.clash es fs c.loop-i.i c.loop-i.count c.index-es-i.result c.index-fs-count.result c.loop-i-test.true c.if-count-fs.true c.index-es-i.is c.index-fs-count.is before same in
    walk-says 0 es fs c.requires.met c.requires.found ∙ ap (on_entries (λ gs. es ++ gs)) (sym c.loop-i.invariant.so_far ∙ strays)

pub is_clash-clash-requires : goal.is_clash-clash-requires
is_clash-clash-requires c = same-sym c.index-es-i.result c.index-fs-count.result (sym c.order-order.ensures.same ∙ sym c.is_eq.ensures ∙ c.if-not-is_eq.false)

pub returns-then-clash-2-clause-value : goal.returns-then-clash-2-clause-value
returns-then-clash-2-clause-value c =
    let es = c.args.es.now in
    let fs = c.args.fs.now in
    let end : (length es ≤ c.loop-i.i) ⊎ (length fs ≤ c.loop-i.count) = elim c.loop-i-test.branch [ then-loop-i-test+else-count-fs w ↦ inr w.if-count-fs.false | else-loop-i-test w ↦ inl w.loop-i-test.false ] in
    let ends = walk-ends c.loop-i.clash es fs c.loop-i.i c.loop-i.count end in
    walk-says 0 es fs c.requires.met c.requires.found ∙ ap (on_entries (λ gs. es ++ gs)) (sym c.loop-i.invariant.so_far ∙ ends ∙ ap (λ (t : Bool). if t then Err Clash else Ok (drop c.loop-i.count fs)) c.if-clash-2.true)

pub returns-clause-value : goal.returns-clause-value
returns-clause-value c =
    let es = c.args.es.now in
    let fs = c.args.fs.now in
    let end : (length es ≤ c.loop-i.i) ⊎ (length fs ≤ c.loop-i.count) = elim c.loop-i-test.branch [ then-loop-i-test+else-count-fs w ↦ inr w.if-count-fs.false | else-loop-i-test w ↦ inl w.loop-i-test.false ] in
    let ends = walk-ends c.loop-i.clash es fs c.loop-i.i c.loop-i.count end in
    walk-says 0 es fs c.requires.met c.requires.found ∙ ap (on_entries (λ gs. es ++ gs)) (sym c.loop-i.invariant.so_far ∙ ends ∙ ap (λ (t : Bool). if t then Err Clash else Ok (drop c.loop-i.count fs)) c.if-clash-2.false)

pub returns-then-not-is_eq-clause-sound : goal.returns-then-not-is_eq-clause-sound
returns-then-not-is_eq-clause-sound c = λ sound. absurd (let k : false ≡ true = subst IsOk (returns-then-not-is_eq-clause-value c) sound in cc)

pub returns-then-clash-2-clause-sound : goal.returns-then-clash-2-clause-sound
returns-then-clash-2-clause-sound c = λ sound. absurd (let k : false ≡ true = subst IsOk (returns-then-clash-2-clause-value c) sound in cc)
