use Rattle.std.proofs.Common.{◌∙◌, ℕ, List, length, sym, ap, arith}
use Rattle.core_space.proofs.Loops.{takes_one, takes_none, takes_enough, takes_all, one_number_more}
use Rattle.core_space.proofs.bits.lowest_numbers.Goals as goal
use Rattle.core_space.proofs.bits.lowest_numbers.Goals.{then-items-lt-NUMBERS+then-not-bit+in_ok-push, else-items-lt-NUMBERS, else-items-lt-NUMBERS-via-then-items-lt-NUMBERS+else-not-bit, else-items-lt-NUMBERS-via-else-items-lt-NUMBERS}

pub loop-n-preserved : goal.loop-n-preserved
loop-n-preserved c =
    let b = c.args.index.now in
    let n = c.loop-n.n in
    let from = c.loop-n.auto.n in
    let inside = c.loop-n-test.true in
    let to = c.requires.files_to in
    let count = ap (λ (xs : List ℕ). length xs) c.items.ensures in
    elim c.if-items-lt-NUMBERS.branch [
      | then-items-lt-NUMBERS+then-not-bit+in_ok-push w ↦
          let few = w.if-items-lt-NUMBERS.true in
          rw (w.numbers-is, w.in_ok-push.ensures.ok) (
            takes_one b n c.loop-n.numbers from c.loop-n.invariant.0 (omega (arith, count)) (sym w.bit.ensures ∙ w.if-not-bit.true),
            one_number_more c.loop-n.numbers n c.loop-n.invariant.1 from (omega arith),
          )
      | else-items-lt-NUMBERS w ↦ elim w.else-items-lt-NUMBERS.branch [
        | else-items-lt-NUMBERS-via-then-items-lt-NUMBERS+else-not-bit v ↦
            rw (w.numbers-is) (takes_none b n c.loop-n.numbers from c.loop-n.invariant.0 (sym v.bit.ensures ∙ v.if-not-bit.false), c.loop-n.invariant.1)
        | else-items-lt-NUMBERS-via-else-items-lt-NUMBERS v ↦
            let full = v.if-items-lt-NUMBERS.false in
            rw (w.numbers-is) (takes_enough b n c.loop-n.numbers from c.loop-n.invariant.0 (omega (arith, count)), c.loop-n.invariant.1)
      ]
    ]

pub returns-clause-numbers : goal.returns-clause-numbers
returns-clause-numbers c =
    let from = c.loop-n.auto.n in
    let stop = c.loop-n-test.false in
    let end = c.loop-n.auto.n-end in
    takes_all c.args.geometry.now c.args.index.now c.loop-n.n c.loop-n.numbers c.loop-n.invariant.0 (omega arith)
