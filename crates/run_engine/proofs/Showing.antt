-- A report shows no room of a list.
use Rattle.std.proofs.Common.{◌≡◌, ◌+◌, ◌++◌, ℕ, Bool, cond, List, [], ◌∷◌, map, refl, sym, ap, ◌∙◌}
use Rattle.std.specs.Prelude.{count_by}
use Rattle.std.specs.List.{fold}
use Rattle.plain_cat.specs.declared.history.Entry.{Entry}
use Rattle.plain_cat.specs.declared.history.Entry.TheVariants.{Done, Died, Mended}
use Rattle.plain_texts.specs.Reports.{entry_line, line_text, lines_from}
use Rattle.core_state.specs.Worlds.{shown}
use Rattle.run_engine.specs.Reports.{is_answer, is_death, lines_bytes}
use Rattle.run_engine.specs.Summaries.{is_refused, is_carried_out}

line_shown : (k : ℕ) (e : Entry) → line_text k (shown e) ≡ line_text k e
unfolding entry_line
line_shown k (Done n x r) = refl
line_shown k (Died n stage clusters numbers) = refl
line_shown k (Mended m) = refl

from_shown : (k : ℕ) (es : List Entry) → lines_from k (map shown es) ≡ lines_from k es
from_shown k [] = refl
from_shown k (e ∷ es) = λ i. line_shown k e i ++ from_shown (k + 1) es i

pub lines_shown : (es : List Entry) → lines_bytes es ≡ lines_bytes (map shown es)
lines_shown es = sym (from_shown 1 es)

answer_shown : (e : Entry) → is_answer (shown e) ≡ is_answer e
unfolding is_answer
answer_shown (Done n x r) = refl
answer_shown (Died n stage clusters numbers) = refl
answer_shown (Mended m) = refl

death_shown : (e : Entry) → is_death (shown e) ≡ is_death e
unfolding is_death
death_shown (Done n x r) = refl
death_shown (Died n stage clusters numbers) = refl
death_shown (Mended m) = refl

count_from : (p : Entry → Bool) → ((e : Entry) → p (shown e) ≡ p e) → (k : ℕ) (es : List Entry) → fold (λ a x. a + cond (p x) 1 0) k (map shown es) ≡ fold (λ a x. a + cond (p x) 1 0) k es
count_from p same k [] = refl
count_from p same k (e ∷ es) = ap (λ b. fold (λ a x. a + cond (p x) 1 0) (k + cond b 1 0) (map shown es)) (same e) ∙ count_from p same (k + cond (p e) 1 0) es

pub answers_shown : (es : List Entry) → count_by is_answer es ≡ count_by is_answer (map shown es)
answers_shown es = sym (count_from is_answer answer_shown 0 es)

pub deaths_shown : (es : List Entry) → count_by is_death es ≡ count_by is_death (map shown es)
deaths_shown es = sym (count_from is_death death_shown 0 es)

refused_shown_one : (e : Entry) → is_refused (shown e) ≡ is_refused e
unfolding is_refused
refused_shown_one (Done n x r) = refl
refused_shown_one (Died n stage clusters numbers) = refl
refused_shown_one (Mended m) = refl

carried_out_shown_one : (e : Entry) → is_carried_out (shown e) ≡ is_carried_out e
unfolding is_carried_out
carried_out_shown_one (Done n x r) = refl
carried_out_shown_one (Died n stage clusters numbers) = refl
carried_out_shown_one (Mended m) = refl

pub refused_shown : (es : List Entry) → count_by is_refused es ≡ count_by is_refused (map shown es)
refused_shown es = sym (count_from is_refused refused_shown_one 0 es)

pub carried_out_shown : (es : List Entry) → count_by is_carried_out es ≡ count_by is_carried_out (map shown es)
carried_out_shown es = sym (count_from is_carried_out carried_out_shown_one 0 es)
