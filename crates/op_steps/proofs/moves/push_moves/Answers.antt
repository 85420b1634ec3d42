use Rattle.std.proofs.Common.{◌≡◌, ◌∙◌, ◌+◌, ◌++◌, suc, [], ◌∷◌, take, ap, sym, arith, append_assoc, append-nil}
use Rattle.op_law.specs.Moving.{moves_at, move_write}
use Rattle.op_steps.specs.Names.{dir_seen}
use Rattle.op_steps.proofs.Begun.{at_error, so_far}
use Rattle.op_steps.proofs.Entered.{one_more_before, one_more_after}
use Rattle.op_steps.proofs.moves.push_moves.Goals as goal
use Rattle.op_steps.proofs.moves.push_moves.Goals.{then-i-first, else-i-first}
use Rattle.fx_dir.specs.declared.Move.{Move}
use Rattle.plain_cat.specs.declared.history.Stage.{Stage}

pub loop-i-init : goal.loop-i-init
loop-i-init c = c.make_room.ensures ∙ sym (append-nil c.args.writes.now)

pub loop-i-preserved : goal.loop-i-preserved
loop-i-preserved c =
    let ms = c.args.moves.now in
    let d = dir_seen c.args.d.now in
    let a = c.args.before in
    let b = c.args.after in
    let i = c.loop-i.i in
    let k = c.args.first in
    let lt = c.loop-i-test.true in
    let next : suc i ≡ i + 1 = omega arith in
    let old = c.args.writes.now in
    let step : (s : Stage) (m : Move) → c.if-i-first.stage ≡ s → c.move_write.result ≡ move_write d c.if-i-first.stage m
    → take (suc i) (moves_at d a b k ms) ≡ take i (moves_at d a b k ms) ++ move_write d s m ∷ [] → c.push.new.self ≡ old ++ take (i + 1) (moves_at d a b k ms) =
    λ s m is made more.
    c.in_ok-push.ensures.ok
    ∙ ap (λ w. c.loop-i.writes ++ w ∷ []) (made ∙ ap (λ x. move_write d x m) is)
    ∙ ap (λ ws. ws ++ move_write d s m ∷ []) c.loop-i.invariant
    ∙ append_assoc old (take i (moves_at d a b k ms)) (move_write d s m ∷ [])
    ∙ ap (λ xs. old ++ xs) (sym more)
    ∙ ap (λ n. old ++ take n (moves_at d a b k ms)) next in
    elim c.if-i-first.branch [
      | then-i-first w ↦ step a _ w.stage-is c.move_write.ensures (one_more_before d a b k i ms _ lt (let t = w.if-i-first.true in omega arith))
      | else-i-first w ↦ step b _ w.stage-is c.move_write.ensures (one_more_after d a b k i ms _ lt (let t = w.if-i-first.false in omega arith))
    ]

pub returns-in_err-push-clause-err : goal.returns-in_err-push-clause-err
returns-in_err-push-clause-err c =
    let all = moves_at (dir_seen c.args.d.now) c.args.before c.args.after c.args.first c.args.moves.now in
    at_error _ (so_far c.args.writes.now all _ c.loop-i.i (c.in_err-push.ensures.err ∙ c.loop-i.invariant))
