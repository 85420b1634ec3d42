-- What holds of the commands to which a script can come.
use Rattle.std.proofs.Common.{◌≡◌, ◌==◌, ◌&&◌, ℕ, zero, suc, true, false, List, [], ◌∷◌, Option, Some, None, cond, slice_get, refl, sym, subst}
use Rattle.std.specs.List.{list_all}
use Rattle.std.proofs.lemmas.Bool.{and_parts}
use Rattle.std.proofs.lemmas.List.Sums.{list_all-from_AllPass}
use Rattle.plain_cat.specs.InForm.{is_within, is_eighth, line_in_form, InForm}
use Rattle.plain_cat.specs.declared.ids.Fid.{Fid}
use Rattle.plain_cat.specs.declared.command.Cmd.{Cmd}
use Rattle.plain_cat.specs.declared.command.Cmd.TheVariants as cmd
use Rattle.plain_cat.specs.declared.script.LineCmd.{LineCmd}
use Rattle.plain_cat.specs.declared.script.Line.{Line}
use Rattle.plain_cat.specs.declared.script.Script.{Script}
use Rattle.plain_rules.specs.Own.{past, filled, lines_of, or_close}
use Rattle.core_state.specs.Channels.{names_in_form}
use Rattle.core_state.specs.Goods.{HasOnly}
use Rattle.core_state.proofs.Commands.{closes_one, next_names}

lines_good : (nodes node : ℕ) (ls : List Line) → list_all (λ (x : Line). is_within 1 nodes x.node && line_in_form x.cmd) ls ≡ true → list_all line_in_form (lines_of node ls) ≡ true
lines_good nodes node [] h = refl
lines_good nodes node (l ∷ ls) h =
    let parts = and_parts (is_within 1 nodes l.node && line_in_form l.cmd) (list_all (λ (x : Line). is_within 1 nodes x.node && line_in_form x.cmd) ls) h in
    let form = (and_parts (is_within 1 nodes l.node) (line_in_form l.cmd) parts.0).1 in
    elim (l.node == node) as (λ t. list_all line_in_form (cond t (l.cmd ∷ lines_of node ls) (lines_of node ls)) ≡ true) [
      | true ↦ rw (form, lines_good nodes node ls parts.1) refl
      | false ↦ lines_good nodes node ls parts.1
    ]

one_good : (ls : List LineCmd) (i : ℕ) (l : LineCmd) → list_all line_in_form ls ≡ true → slice_get ls i ≡ Some l → line_in_form l ≡ true
one_good [] i l h e = let f : None ≡ Some l = e in cc
one_good (x ∷ xs) zero l h e = let f : Some x ≡ Some l = e in let same : x ≡ l = cc in subst (λ y. line_in_form y ≡ true) same (and_parts (line_in_form x) (list_all line_in_form xs) h).0
one_good (x ∷ xs) (suc i) l h e = one_good xs i l (and_parts (line_in_form x) (list_all line_in_form xs) h).1 e

-- Where a predicate holds of the commands of lines in form, and of the closes of channels in form, it holds of each command to
-- which a script comes: that is one of a line, or a close behind the lines.
pub only_such : (P : Cmd → Type 0) → ((g : List Fid) (l : LineCmd) → line_in_form l ≡ true → P (filled g l)) → ((chan : ℕ) → is_eighth chan ≡ true → P (cmd.CloseFile chan))
    → (s : Script) → InForm s → HasOnly P s
only_such P of_line of_close s form n h x e = by (slice_get (lines_of n s.lines) (past n h).answered) refl e where
  good : list_all line_in_form (lines_of n s.lines) ≡ true
  good = lines_good s.nodes n s.lines (list_all-from_AllPass _ s.lines form.lines)

  by : (o : Option LineCmd) → slice_get (lines_of n s.lines) (past n h).answered ≡ o → or_close (past n h) o ≡ Some x → P x
  by None at f =
      let c = closes_one 1 (past n h).channels x f in
      subst P (sym c.is) (of_close c.chan (subst (λ (y : Cmd). names_in_form y ≡ true) c.is (next_names s form n h x e)))
  by (Some l) at f =
      let same : filled (past n h).registers l ≡ x = cc in
      subst P same (of_line (past n h).registers l (one_good (lines_of n s.lines) (past n h).answered l good at))
