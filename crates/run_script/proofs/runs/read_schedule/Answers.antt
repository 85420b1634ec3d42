use Rattle.std.proofs.Common.{◌≡◌, ◌<◌, List, Option, Some, None, map, get_or, length, drop, arith, rules, tests, eqb}
use Rattle.std.proofs.lemmas.List.{length_push}
use Rattle.std.specs.Iterator.{Yields}
use Rattle.std.proofs.lemmas.Iterator.{YieldsList}
use Rattle.std.proofs.lemmas.Result.{err_from_is_err_and}
use Rattle.std.proofs.lemmas.Iterator.Consumers.{YieldsList-turn, YieldsList-end, YieldsList-at}
use Rattle.std.proofs.lemmas.Iterator.Adapters.{YieldsList-from_skip}
use Rattle.std.proofs.lemmas.Iterator.Splits.{YieldsList-from_slice_split}
use Rattle.run_script.specs.Lines.{words_of}
use Rattle.run_script.proofs.Schedules.{stops, goes_on, ends}
use Rattle.run_script.proofs.runs.read_schedule.Goals as goal

turn_of : {S A B : Type 0} {steps : S → Option A → S → Type 0} {v : A → B} {s : S} {all : List B} (xs : List A) (t : S) → Yields steps s xs t → YieldsList steps v s all
    → (r : Option A) (u : S) (x : A) → r ≡ Some x → steps t r u → (length xs < length all) × (v x ≡ get_or all (length xs) (v x))
turn_of xs t y e r u x is step = YieldsList-turn e xs t y r u x is step

end_of : {S A B : Type 0} {steps : S → Option A → S → Type 0} {v : A → B} {s : S} {all : List B} (xs : List A) (t : S) → Yields steps s xs t → YieldsList steps v s all
    → (r : Option A) (u : S) → r ≡ None → steps t r u → (map v xs ≡ all) × (length xs ≡ length all)
end_of xs t y e r u is step = YieldsList-end e xs t y r u is step

pub returns-in_err-read_run : goal.returns-in_err-read_run
returns-in_err-read_run c =
    let turn = turn_of c.loop-word.yielded _ c.loop-word.yielded_by (YieldsList-at c.into_iter-word-iterator.ensures.into_iter_gives (YieldsList-from_skip 1 (YieldsList-at c.skip-word-items.ensures.source
    (YieldsList-from_slice_split _ (λ b. eqb b 32) c.args.line.now c.split.ensures.rest c.split.ensures.done c.split.ensures.closure (λ x r q k. search (rules, tests)))) c.skip-word-items.ensures.count)) _ _ c.in-Some.word c.in-Some.is c.next.ensures.steps in
    let p = err_from_is_err_and c.from_residual.result c.from_residual.ensures.1 in
    rw (p.1, p.2) (stops (words_of c.args.line.now) c.loop-word.runs (length c.loop-word.yielded) c.in-Some.word.now c.in_err-read_run.field-0.0 (omega arith) c.loop-word.invariant turn c.in_err-read_run.ensures)

pub loop-word-preserved : goal.loop-word-preserved
loop-word-preserved c =
    let turn = turn_of c.loop-word.yielded _ c.loop-word.yielded_by (YieldsList-at c.into_iter-word-iterator.ensures.into_iter_gives (YieldsList-from_skip 1 (YieldsList-at c.skip-word-items.ensures.source
    (YieldsList-from_slice_split _ (λ b. eqb b 32) c.args.line.now c.split.ensures.rest c.split.ensures.done c.split.ensures.closure (λ x r q k. search (rules, tests)))) c.skip-word-items.ensures.count)) _ _ c.in-Some.word c.in-Some.is c.next.ensures.steps in
    goes_on (drop 1 (words_of c.args.line.now)) c.loop-word.runs c.push.new.self (length c.loop-word.yielded) _ c.in-Some.word.now c.in_ok-read_run.field-0 c.loop-word.invariant turn
    c.in_ok-read_run.ensures c.in_ok-push.ensures (length_push c.loop-word.yielded c.in-Some.word)

pub returns : goal.returns
returns c =
    let end = end_of c.loop-word.yielded _ c.loop-word.yielded_by (YieldsList-at c.into_iter-word-iterator.ensures.into_iter_gives (YieldsList-from_skip 1 (YieldsList-at c.skip-word-items.ensures.source
    (YieldsList-from_slice_split _ (λ b. eqb b 32) c.args.line.now c.split.ensures.rest c.split.ensures.done c.split.ensures.closure (λ x r q k. search (rules, tests)))) c.skip-word-items.ensures.count)) _ _ c.in-None.is c.next.ensures.steps in
    ends (words_of c.args.line.now) c.loop-word.runs (length c.loop-word.yielded) (omega arith) c.loop-word.invariant end.1
