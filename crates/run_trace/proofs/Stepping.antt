-- The lines of a step, by what is read off the world after it.
use Rattle.std.proofs.Common.{◌≡◌, ◌++◌, ℕ, Bool, true, false, cond, List, Some, refl, sym, ap, ◌∙◌}
use Rattle.std.specs.Prelude.{◌||◌, codes, decimal, flat_map, length}
use Rattle.core_state.specs.Worlds.{NodeState, Plain, node_at}
use Rattle.core_state.specs.Events.{is_over, is_over_in, next_event, after_turn, count_of}
use Rattle.core_state.specs.Deaths.{is_due, died, after_step}
use Rattle.core_step.specs.declared.turns.Turn.{Turn}
use Rattle.core_step.specs.declared.turns.Turn.TheVariants as turn
use Rattle.core_step.specs.Turns.{told}
use Rattle.core_death.specs.Seats.{told_of_step}
use Rattle.run_trace.specs.declared.marks.Mark.{Mark}
use Rattle.run_trace.specs.declared.waits.Wait.TheVariants as wait
use Rattle.run_trace.specs.Texts.{line_text}
use Rattle.run_trace.specs.Reads.{mark_of, read_in, own_read}
use Rattle.run_trace.specs.Steps.{last_entry, dying_text, turn_text, own_text, waiting_to, grant_text, grants_text, step_text}
use Rattle.run_trace.proofs.Lines.{appended}
use Rattle.run_trace.proofs.Reading.{turn_is_read}

not_first : (a b : Bool) → (a || b) ≡ false → a ≡ false
not_first true b e = e
not_first false b e = refl

module _ (k : ℕ) (old x : Plain) (n : ℕ) (moved : x ≡ after_step old n) where
  own_is : (s : NodeState) (m : Mark) (t : Turn) (dies : Bool) → node_at old.nodes n ≡ Some s → is_over old n ≡ false → dies ≡ is_due old n → m ≡ mark_of old.locks n s → t ≡ told_of_step old x n
      → own_read k x n dies m t ≡ own_text k old n
  unfolding own_read own_text
  own_is s m t dies at on due mark turn_is = by (is_due old n) refl where
    by : (b : Bool) → is_due old n ≡ b → own_read k x n dies m t ≡ own_text k old n
    by true e =
        let d : dies ≡ true = due ∙ e in
        let y : x ≡ died old n = moved ∙ (λ i. cond (e i) (died old n) (after_turn old n)) in
        (λ i. cond (d i) (line_text k n (codes "-") (dying_text (last_entry x.history))) (line_text k n (decimal (count_of (λ q. q.turns) x n)) (read_in m t x n (node_at x.nodes n))))
        ∙ ((λ i. line_text k n (codes "-") (dying_text (last_entry (y i).history)))
        ∙ sym (λ i. cond (e i) (line_text k n (codes "-") (dying_text (last_entry (died old n).history))) (line_text k n (decimal (count_of (λ q. q.turns) (after_turn old n) n)) (turn_text old n))))
    by false e =
        let d : dies ≡ false = due ∙ e in
        let y : x ≡ after_turn old n = moved ∙ (λ i. cond (e i) (died old n) (after_turn old n)) in
        let so : t ≡ told x n (next_event old n) = turn_is ∙ (λ i. cond (e i) turn.Over (told x n (next_event old n))) in
        let over : s.over ≡ false = not_first s.over s.past.dead (sym (ap is_over_in at) ∙ on) in
        let what : read_in m t x n (node_at x.nodes n) ≡ turn_text old n =
        (λ i. read_in (mark i) (so i) x n (node_at x.nodes n))
        ∙ ((λ i. read_in (mark_of old.locks n s) (told (y i) n (next_event old n)) (y i) n (node_at (y i).nodes n)) ∙ turn_is_read old n s at over) in
        (λ i. cond (d i) (line_text k n (codes "-") (dying_text (last_entry x.history))) (line_text k n (decimal (count_of (λ q. q.turns) x n)) (read_in m t x n (node_at x.nodes n))))
        ∙ ((λ i. line_text k n (decimal (count_of (λ q. q.turns) (y i) n)) (what i))
        ∙ sym (λ i. cond (e i) (line_text k n (codes "-") (dying_text (last_entry (died old n).history))) (line_text k n (decimal (count_of (λ q. q.turns) (after_turn old n) n)) (turn_text old n))))

  grants_is : (sp cm : List ℕ) → sp ≡ waiting_to old wait.Space (length old.nodes) → cm ≡ waiting_to old wait.Command (length old.nodes)
      → flat_map (grant_text k x wait.Space) sp ++ flat_map (grant_text k x wait.Command) cm ≡ grants_text k old (after_step old n)
  unfolding grants_text
  grants_is sp cm e f = (λ i. flat_map (grant_text k (moved i) wait.Space) (e i) ++ flat_map (grant_text k (moved i) wait.Command) (f i))

  pub step_is : (s : NodeState) (m : Mark) (t : Turn) (dies : Bool) (sp cm first second third : List ℕ) → node_at old.nodes n ≡ Some s → is_over old n ≡ false → dies ≡ is_due old n → m ≡ mark_of old.locks n s → t ≡ told_of_step old x n
      → sp ≡ waiting_to old wait.Space (length old.nodes) → cm ≡ waiting_to old wait.Command (length old.nodes)
      → second ≡ first ++ own_read k x n dies m t → third ≡ second ++ (flat_map (grant_text k x wait.Space) sp ++ flat_map (grant_text k x wait.Command) cm)
      → third ≡ first ++ step_text k old n
  unfolding step_text
  step_is s m t dies sp cm first second third at on due mark turn_is e f one two =
      let own = own_is s m t dies at on due mark turn_is in
      let grants = grants_is sp cm e f in
      appended first second third (own_text k old n) (grants_text k old (after_step old n)) (step_text k old n) (one ∙ ap (λ a. first ++ a) own) (two ∙ ap (λ a. second ++ a) grants) refl
