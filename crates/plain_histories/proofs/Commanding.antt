-- The next command of a node has its channel in form, where the script is in form.
use Rattle.std.proofs.Common.{◌≡◌, ◌+◌, ◌≤◌, ◌==◌, ◌&&◌, ℕ, zero, suc, Bool, true, false, cond, List, [], ◌∷◌, Option, Some, None, length, slice_get, refl, subst, ◌∙◌, arith}
use Rattle.std.specs.Prelude.{IsTrue, leb}
use Rattle.std.proofs.lemmas.Bool.Decides.{nat_tests}
use Rattle.std.proofs.lemmas.List.Elements.{recursion_from_All}
use Rattle.std.specs.List.{AllByRecursion}
use Rattle.plain_cat.specs.InForm.{is_within, is_eighth, is_open_mode, is_file_ref, line_in_form, InForm}
use Rattle.plain_cat.specs.declared.ids.Fid.{Fid}
use Rattle.plain_cat.specs.declared.command.Cmd.{Cmd}
use Rattle.plain_cat.specs.declared.command.Cmd.TheVariants as cmd
use Rattle.plain_cat.specs.declared.reply.Reply.{Reply}
use Rattle.plain_cat.specs.declared.history.Entry.{Entry}
use Rattle.plain_cat.specs.declared.history.Entry.TheVariants.{Done, Died, Mended}
use Rattle.plain_cat.specs.declared.script.Line.{Line}
use Rattle.plain_cat.specs.declared.script.LineCmd.{LineCmd}
use Rattle.plain_cat.specs.declared.script.LineCmd.TheVariants as line
use Rattle.plain_cat.specs.declared.script.Script.{Script}
use Rattle.plain_rules.specs.Own.{NodePast, newborn, switched, channels_after, after_answer, after_entry, past_from, past, is_opened, is_closed, opened_by, closed_by, filled, lines_of, close_from, or_close, next_command}
use Rattle.plain_histories.specs.Moves.{has_channel_in_form}
use Rattle.plain_histories.proofs.Lists.{left, right, both, set_count}

-- ---- lines

filled_has : (g : List Fid) (l : LineCmd) → line_in_form l ≡ true → has_channel_in_form (filled g l) ≡ true
unfolding filled line_in_form
filled_has g (line.OpenFile chan file mode) e =
    let rest : (is_file_ref file && is_open_mode mode) ≡ true = right (is_eighth chan) (is_file_ref file && is_open_mode mode) e in
    both (is_eighth chan) (is_open_mode mode) (left (is_eighth chan) (is_file_ref file && is_open_mode mode) e) (right (is_file_ref file) (is_open_mode mode) rest)
filled_has g (line.CloseFile chan) e = e
filled_has g other e = refl

abbrev Lines : List Line → Type 0
Lines [] = Unit {0}
Lines (l ∷ ls) = (line_in_form l.cmd ≡ true) × Lines ls

lines_from : (n : ℕ) (ls : List Line) → AllByRecursion (λ (l : Line). IsTrue (is_within 1 n l.node && line_in_form l.cmd)) ls → Lines ls
lines_from n [] h = tt
lines_from n (l ∷ ls) h = (right (is_within 1 n l.node) (line_in_form l.cmd) h.0, lines_from n ls h.1)

line_there : (n : ℕ) (ls : List Line) (k : ℕ) (l : LineCmd) → Lines ls → slice_get (lines_of n ls) k ≡ Some l → line_in_form l ≡ true
line_there n [] k l h e = absurd (let f : None ≡ Some l = e in cc)
line_there n (x ∷ ls) k l h e = by_node (λ i f. line_there n ls i l h.1 f) (x.node == n) k e where
  by_node : ((i : ℕ) → slice_get (lines_of n ls) i ≡ Some l → line_in_form l ≡ true) → (b : Bool) (i : ℕ) → slice_get (cond b (x.cmd ∷ lines_of n ls) (lines_of n ls)) i ≡ Some l → line_in_form l ≡ true
  by_node rest true zero f = let g : x.cmd ≡ l = (let y : Some x.cmd ≡ Some l = f in cc) in subst (λ (y : LineCmd). line_in_form y ≡ true) g h.0
  by_node rest true (suc i) f = rest i f
  by_node rest false i f = rest i f

-- ---- closes

close_has : (chan : ℕ) (bs : List Bool) (x : Cmd) → 1 ≤ chan → chan + length bs ≤ 9 → close_from chan bs ≡ Some x → has_channel_in_form x ≡ true
close_has chan [] x from to e = absurd (let f : None ≡ Some x = e in cc)
close_has chan (b ∷ bs) x from to e = by_first (close_has (chan + 1) bs x (omega arith) (omega arith)) b e where
  in_eight : is_eighth chan ≡ true
  in_eight = both (leb 1 chan) (leb chan 8) (low chan from) (high chan (omega arith)) where
    low : (k : ℕ) → 1 ≤ k → leb 1 k ≡ true
    low k h = grind (arith, nat_tests)

    high : (k : ℕ) → k ≤ 8 → leb k 8 ≡ true
    high k h = grind (arith, nat_tests)

  by_first : (close_from (chan + 1) bs ≡ Some x → has_channel_in_form x ≡ true) → (t : Bool) → cond t (Some (cmd.CloseFile chan)) (close_from (chan + 1) bs) ≡ Some x → has_channel_in_form x ≡ true
  by_first rest true h = let f : cmd.CloseFile chan ≡ x = (let y : Some (cmd.CloseFile chan) ≡ Some x = h in cc) in subst (λ (y : Cmd). has_channel_in_form y ≡ true) f in_eight
  by_first rest false h = rest h

-- ---- eight channels

switched_count : (cs : List Bool) (b : Bool) (chan : Option ℕ) (v : Bool) → length (switched cs b chan v) ≡ length cs
switched_count cs true (Some chan) v = set_count cs _ v
switched_count cs true None v = refl
switched_count cs false chan v = refl

after_count : (cs : List Bool) (c : Cmd) (r : Reply) → length (channels_after cs c r) ≡ length cs
after_count cs c r = switched_count (switched cs (is_opened r) (opened_by c) true) (is_closed r) (closed_by c) false ∙ switched_count cs (is_opened r) (opened_by c) true

entry_count : (n : ℕ) (p : NodePast) (e : Entry) → length (after_entry n p e).channels ≡ length p.channels
unfolding after_answer
entry_count n p (Done m c r) = by_node (m == n) where
  by_node : (b : Bool) → length (cond b (after_answer p c r) p).channels ≡ length p.channels
  by_node true = after_count p.channels c r
  by_node false = refl
entry_count n p (Died m s k l) = by_node (m == n) where
  by_node : (b : Bool) → length (cond b (record p { dead = true }) p).channels ≡ length p.channels
  by_node true = refl
  by_node false = refl
entry_count n p (Mended m) = refl

from_count : (n : ℕ) (p : NodePast) (h : List Entry) → length (past_from n p h).channels ≡ length p.channels
from_count n p [] = refl
from_count n p (e ∷ es) = from_count n (after_entry n p e) es ∙ entry_count n p e

newborn_count : length newborn.channels ≡ 8
unfolding newborn
newborn_count = refl

pub past_count : (n : ℕ) (h : List Entry) → length (past n h).channels ≡ 8
past_count n h = from_count n newborn h ∙ newborn_count

-- ---- the next command

pub next_has : (s : Script) (n : ℕ) (h : List Entry) (x : Cmd) → InForm s → next_command s n h ≡ Some x → has_channel_in_form x ≡ true
next_has s n h x form e = by_line (slice_get (lines_of n s.lines) (past n h).answered) refl e where
  p : NodePast
  p = past n h

  by_line : (l : Option LineCmd) → slice_get (lines_of n s.lines) p.answered ≡ l → or_close p l ≡ Some x → has_channel_in_form x ≡ true
  by_line None at is = let count = past_count n h in close_has 1 p.channels x (omega arith) (omega (arith, count)) is
  by_line (Some l) at is =
      let f : filled p.registers l ≡ x = (let y : Some (filled p.registers l) ≡ Some x = is in cc) in
      let lines : Lines s.lines = lines_from s.nodes s.lines (recursion_from_All _ s.lines form.lines) in
      subst (λ (y : Cmd). has_channel_in_form y ≡ true) f (filled_has p.registers l (line_there n s.lines p.answered l lines at))
