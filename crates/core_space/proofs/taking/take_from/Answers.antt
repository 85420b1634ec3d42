use Rattle.std.proofs.Common.{◌≡◌, ◌+◌, ◌-◌, ◌*◌, ◌++◌, ℕ, List, length, sym, ap, ◌∙◌, arith}
use Rattle.std.specs.Prelude.{min}
use Rattle.vol_spell.specs.Reading.{total_of}
use Rattle.core_space.specs.Searching.{with_taken}
use Rattle.core_space.proofs.Collecting.{taking_begins, taking_skips, taking_goes_on, full_on, taking_ends, more_below}
use Rattle.core_space.proofs.taking.take_from.Goals as goal
use Rattle.core_space.proofs.taking.take_from.Goals.{After-loop-q, then-bit+in_ok-push, else-bit}

pub loop-q-init : goal.loop-q-init
loop-q-init c = (taking_begins c.args.wanted c.args.taken.now (4096 * c.args.k) c.args.block.now c.requires.rising, omega arith)

pub push-requires : goal.push-requires
push-requires c = c.loop-q.invariant.0.below

pub loop-q-preserved : goal.loop-q-preserved
loop-q-preserved c =
    let first = 4096 * c.args.k in
    let le = c.loop-q.auto.q in
    let lt = c.loop-q-test.true in
    let inside = c.loop-q.invariant.1 in
    let count = ap (λ (xs : List ℕ). length xs) c.items.ensures.items in
    let room = c.if-wanted-items.false in (
      elim c.if-bit.branch [
        | then-bit+in_ok-push w ↦
            let set = sym c.bit.ensures ∙ w.if-bit.true in
            rw (w.taken-is, w.left-is, w.in_ok-push.ensures.ok, w.clear_bits.ensures.block)
            (taking_goes_on c.args.wanted c.args.taken.now first c.args.block.now c.loop-q.taken c.loop-q.left c.loop-q.q le c.loop-q.invariant.0 (omega (arith, count)) set)
        | else-bit w ↦
            let clear = sym c.bit.ensures ∙ w.if-bit.false in
            rw (w.taken-is, w.left-is)
            (taking_skips c.args.wanted c.args.taken.now first c.args.block.now c.loop-q.taken c.loop-q.left c.loop-q.q le c.loop-q.invariant.0 clear)
      ],
      omega arith,
    )

-- as many are taken as are wanted, so none of those behind them is
pub returns-then-wanted-items-clause-block : goal.returns-then-wanted-items-clause-block
returns-then-wanted-items-clause-block c =
    let end = c.min-end.ensures in
    let le = c.loop-q.auto.q in
    let lt = c.loop-q-test.true in
    let full = c.if-wanted-items.true in
    let count = ap (λ (xs : List ℕ). length xs) c.items.ensures.items in
    let t = full_on c.args.wanted c.args.taken.now (4096 * c.args.k) c.args.block.now c.loop-q.taken c.loop-q.left c.loop-q.q (c.min-end.result - c.loop-q.q) le c.loop-q.invariant.0 (omega (arith, count)) in
    t.left_is
    ∙ ap (with_taken c.args.block.now) (taking_ends c.args.geometry.now c.args.wanted c.args.taken.now c.args.k c.args.block.now (c.loop-q.q + (c.min-end.result - c.loop-q.q)) (omega arith) (omega arith))

pub returns-then-wanted-items-clause-taken : goal.returns-then-wanted-items-clause-taken
returns-then-wanted-items-clause-taken c =
    let end = c.min-end.ensures in
    let le = c.loop-q.auto.q in
    let lt = c.loop-q-test.true in
    let full = c.if-wanted-items.true in
    let count = ap (λ (xs : List ℕ). length xs) c.items.ensures.items in
    let t = full_on c.args.wanted c.args.taken.now (4096 * c.args.k) c.args.block.now c.loop-q.taken c.loop-q.left c.loop-q.q (c.min-end.result - c.loop-q.q) le c.loop-q.invariant.0 (omega (arith, count)) in
    t.taken_is
    ∙ ap (λ (xs : List ℕ). c.args.taken.now ++ xs) (taking_ends c.args.geometry.now c.args.wanted c.args.taken.now c.args.k c.args.block.now (c.loop-q.q + (c.min-end.result - c.loop-q.q)) (omega arith) (omega arith))

pub returns-then-wanted-items-clause-rising : goal.returns-then-wanted-items-clause-rising
returns-then-wanted-items-clause-rising c =
    let end = c.min-end.ensures in
    let le = c.loop-q.auto.q in
    let lt = c.loop-q-test.true in
    more_below c.loop-q.taken c.loop-q.q (4096 * (c.args.k + 1)) (omega arith) c.loop-q.invariant.0.below

-- the loop came to the end of the block's clusters
all_passed : (c : After-loop-q) → c.loop-q.q - 4096 * c.args.k ≡ min (4096 * c.args.k + 4096) (total_of c.args.geometry.now) - 4096 * c.args.k
all_passed c =
    let end = c.min-end.ensures in
    let le = c.loop-q.auto.q in
    let stop = c.loop-q-test.false in
    let inside = c.loop-q.invariant.1 in
    omega arith

pub returns-clause-block : goal.returns-clause-block
returns-clause-block c =
    c.loop-q.invariant.0.left_is
    ∙ ap (with_taken c.args.block.now) (taking_ends c.args.geometry.now c.args.wanted c.args.taken.now c.args.k c.args.block.now c.loop-q.q c.loop-q.auto.q (all_passed c))

pub returns-clause-taken : goal.returns-clause-taken
returns-clause-taken c =
    c.loop-q.invariant.0.taken_is
    ∙ ap (λ (xs : List ℕ). c.args.taken.now ++ xs) (taking_ends c.args.geometry.now c.args.wanted c.args.taken.now c.args.k c.args.block.now c.loop-q.q c.loop-q.auto.q (all_passed c))

pub returns-clause-rising : goal.returns-clause-rising
returns-clause-rising c =
    let passed = all_passed c in
    let le = c.loop-q.auto.q in
    more_below c.loop-q.taken c.loop-q.q (4096 * (c.args.k + 1)) (omega arith) c.loop-q.invariant.0.below
